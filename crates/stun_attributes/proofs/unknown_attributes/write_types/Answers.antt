use Rattle.std.proofs.Common.{ℕ, ◌+◌, ◌*◌, ◌++◌, take, drop, ap, ◌∙◌, arith}
use Rattle.std.proofs.lemmas.List.{take_rest, length-take}
use Rattle.stun_grammar.specs.Numbers.{be16}
use Rattle.stun_values.specs.TypeLists.{type_encoding}
use Rattle.stun_values.proofs.ListsLemmas.{written_from, write_next, length_of_twos}
use Rattle.stun_attributes.proofs.unknown_attributes.write_types.Goals as goal

pub loop-i-preserved : goal.loop-i-preserved
loop-i-preserved c =
    let i = c.loop-i.i in
    let list = c.args.types.now in
    let reported = rw (take_rest c.loop-i.dest (2 * i)) at c.write_u16.ensures in
    let value = c.value.ensures in
    written_from (2 * i) c.loop-i.dest _ _ (reported ∙ ap (λ (n : ℕ). be16 n ++ drop 2 (drop (2 * i) c.loop-i.dest)) value)
    ∙ write_next type_encoding list (record { 0 = 0 }) i c.loop-i.dest c.args.dest.now (2 * i) (2 * (i + 1)) 2 c.loop-i-test.true (omega arith)
    (omega (arith, length_of_twos (take i list), length-take i list, c.loop-i-test.true)) c.loop-i.invariant
