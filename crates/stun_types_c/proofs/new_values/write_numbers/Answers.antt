use Rattle.std.proofs.Common.{◌+◌, ◌*◌, take, ◌∙◌, arith}
use Rattle.std.proofs.lemmas.List.{take_rest, length-take}
use Rattle.stun_grammar.specs.Numbers.{be16}
use Rattle.stun_values.proofs.ListsLemmas.{written_from, write_next}
use Rattle.stun_types_c.proofs.NewValuesLemmas.{length_of_twos}
use Rattle.stun_types_c.proofs.new_values.write_numbers.Goals as goal

pub loop-i-preserved : goal.loop-i-preserved
loop-i-preserved c =
    let i = c.loop-i.i in
    let list = c.args.numbers.now in
    let reported = rw (take_rest c.loop-i.dest (2 * i)) at c.write_u16.ensures in
    written_from (2 * i) c.loop-i.dest _ _ reported
    ∙ write_next be16 list 0 i c.loop-i.dest c.args.dest.now (2 * i) (2 * (i + 1)) 2 c.loop-i-test.true (omega arith)
    (omega (arith, length_of_twos (take i list), length-take i list, c.loop-i-test.true)) c.loop-i.invariant
