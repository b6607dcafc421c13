use Rattle.std.proofs.Common.{◌+◌, ◌*◌, ◌≡◌, ℕ, take, ◌∙◌, ap, arith}
use Rattle.std.specs.List.{flat_map}
use Rattle.stun_values.specs.TypeLists.{type_encoding}
use Rattle.stun_values.proofs.ListsLemmas.{read_next, two_at}
use Rattle.stun_attributes.proofs.unknown_attributes.UnknownAttributes.list_of.Goals as goal

pub loop-i-preserved : goal.loop-i-preserved
loop-i-preserved c =
    let i = c.loop-i.i in
    let value = c.args.value.now in
    let place : 2 * i + 2 ≡ 2 * (i + 1) = omega arith in
    let reported = two_at value (2 * i) c.number_at.result (omega (arith, c.loop-i-test.true)) (λ k. omega (arith, c.type_inv.value k)) c.number_at.ensures in (
      ap (flat_map type_encoding) c.in-Ok.ensures.items
          ∙ read_next type_encoding c.loop-i.list.items (record { 0 = c.number_at.result }) value (2 * i) 2 c.loop-i.invariant.0 reported ∙ ap (λ (k : ℕ). take k value) place,
      omega (arith, c.in-Ok.ensures.len, c.loop-i.invariant.1),
    )
