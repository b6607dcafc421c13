use Rattle.std.proofs.Common.{◌∙◌, ◌/◌, length, arith}
use Rattle.stun_types_c.proofs.TypeListsLemmas.{read_more, read_enough}
use Rattle.stun_types_c.proofs.type_list.read_into.Goals as goal

pub loop-i-preserved : goal.loop-i-preserved
loop-i-preserved c =
    read_more c.loop-i.i c.args.value.now c.loop-i.types c.args.types.now c.number_at.result c.number_at.ensures c.loop-i.invariant

pub returns : goal.returns
returns c =
    c.loop-i.invariant
    ∙ read_enough c.loop-i.i (length c.args.value.now / 2) c.args.value.now c.args.types.now (omega arith)
