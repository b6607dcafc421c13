use Rattle.std.proofs.Common.{take, ◌∙◌, arith}
use Rattle.std.proofs.lemmas.List.{length-take, get_or-take}
use Rattle.stun_grammar.proofs.NumbersLemmas.{number-two}
use Rattle.stun_base.proofs.header.read_header.Goals as goal

pub of_number-requires : goal.of_number-requires
of_number-requires c =
    let spelled = c.number_at.ensures ∙ number-two (take 2 c.args.bytes.now) (omega (arith, length-take 2 c.args.bytes.now)) in
    omega (arith, spelled, c.requires.low, (c.type_inv.bytes 1).fits, get_or-take 2 c.args.bytes.now 0 0 (omega arith), get_or-take 2 c.args.bytes.now 1 0 (omega arith))
