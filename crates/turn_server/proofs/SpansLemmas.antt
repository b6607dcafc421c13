-- The offsets of the data of a Send indication.
use Rattle.std.proofs.Common.{◌≡◌, ℕ, ◌+◌, ◌-◌, ◌≤◌, List, length, take, drop, Option, None, Some, ap, ◌∙◌, arith}
use Rattle.std.specs.Option.{option_map}
use Rattle.stun_grammar.specs.Chains.{Shown}
use Rattle.stun_grammar.specs.Numbers.{IsBytes}
use Rattle.stun_attributes.specs.Raw.{raw_value}
use Rattle.stun_attributes.specs.declared.wire.raw.RawAttribute.{RawAttribute}
use Rattle.stun_types.specs.LookingUp.{nth, IsFound}
use Rattle.stun_types.proofs.StandsLemmas.{value_there}
use Rattle.stun_authentication.specs.Identities.{value_of}
use Rattle.turn_attrs.specs.Turn.{DATA}
use Rattle.turn_server.specs.declared.action.Span.{Span}
use Rattle.turn_server.specs.Spans.{StandsAt}

-- the value of the attribute that is found is there
pub found_at : (d : List ℕ) (o : Option Shown) (item : ℕ × RawAttribute) (span : Span) → IsBytes d → nth d DATA 0 ≡ o → IsFound o (Some item) → span.at ≡ item.0 + 4 → span.length ≡ length (raw_value item.1)
    → (bytes : List ℕ) × ((value_of d DATA ≡ Some bytes) × StandsAt span bytes d)
found_at d None item span whole is at_offset at_is length_is = absurd cc
found_at d (Some a) item span whole is at_offset at_is length_is =
    let value_is : raw_value item.1 ≡ a.value = at_offset.1.raw_is.value_is in
    let size : span.length ≡ length a.value = length_is ∙ ap (λ (v : List ℕ). length v) value_is in
    let at : span.at ≡ a.offset + 4 = at_is ∙ ap (λ (n : ℕ). n + 4) at_offset.0 in (
      a.value,
      (
        ap (λ (it : Option Shown). option_map (λ (x : Shown). x.value) it) is,
        record {
          length_is = size;
          stands = (λ i. take (at i + size i - at i) (drop (at i) d)) ∙ (value_there d DATA 0 a whole is).1;
        },
      ),
    )

-- its header and its value are within d
pub within : (d : List ℕ) (o : Option Shown) (item : ℕ × RawAttribute) → IsBytes d → nth d DATA 0 ≡ o → IsFound o (Some item) → item.0 + 4 ≤ length d
within d None item whole is at_offset = absurd cc
within d (Some a) item whole is at_offset =
    let there : a.offset + 4 + length a.value ≤ length d = (value_there d DATA 0 a whole is).0 in
    let offset : item.0 ≡ a.offset = at_offset.0 in
    omega (arith, there, offset)
