use Rattle.std.proofs.Common.{ℕ, ◌<◌, ◌∙◌, length, map, set, ap, sym, arith}
use Rattle.std.proofs.lemmas.List.{get_or-map}
use Rattle.stun_grammar.specs.declared.attribute_type.AttributeType.{AttributeType}
use Rattle.stun_transactions.specs.Responses.{own_types}
use Rattle.stun_types_c.proofs.KnownTypesLemmas.{known_more}
use Rattle.stun_types_c.proofs.known_types.stun_types_known_types.Goals as goal

pub loop-i-preserved : goal.loop-i-preserved
loop-i-preserved c =
    let here : c.loop-i.i < length own_types = omega (arith, c.loop-i-test.true, c.min-i-end.ensures) in
    let same = get_or-map (λ (t : AttributeType). t.0) (map (λ (n : ℕ). record { 0 = n }) own_types) c.loop-i.i (record { 0 = 0 }) 0 here in
    ap (λ n. set c.loop-i.types c.loop-i.i n) (sym same) ∙ known_more own_types c.loop-i.types c.args.types.now c.loop-i.i here c.loop-i.invariant
