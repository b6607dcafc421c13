-- Lists of attribute types as C sees them (RFC 8489, sections 6.3.1, 14 and 14.13).
use Rattle.std.specs.Prelude.{◌≡◌, ℕ, List, length, MatchOption}
use Rattle.stun_grammar.specs.declared.attribute_type.AttributeType.{AttributeType}
use Rattle.stun_grammar.specs.Adding.{numbers}
use Rattle.stun_text.specs.Slices.{laid_over}
use Rattle.stun_values.specs.TypeLists.{types_fault, types_in}
use Rattle.stun_types.specs.Replies.{unknown_types}
use Rattle.stun_types_c.specs.declared.call_result.CResult.{CResult}
use Rattle.stun_types_c.specs.declared.attribute.ShownAttribute.{ShownAttribute}
use Rattle.stun_types_c.specs.Codes.{OK, BAD_ARGUMENT, INVALID_DATA}
use Rattle.stun_types_c.specs.CResults.{plain}
use Rattle.stun_types_c.specs.Values.{value_of}

-- the numbers of the types that d shows, that must be understood and are none of those supported,
-- in order and as often as shown
abbrev pub unknown_numbers : List AttributeType → List ℕ → List ℕ
unknown_numbers supported d = numbers (unknown_types supported d)

-- a call leaves C's places as they are
abbrev pub LeavesTypes : (old new : List ℕ) → (before after : ℕ) → Type 0
LeavesTypes old new before after = (new ≡ old) × (after ≡ before)

-- what reading the types in an attribute of the message d answers: as many as there is room for are
-- laid over C's numbers, and all are counted
abbrev pub ReadsTypes : ShownAttribute → List ℕ → CResult → (old new : List ℕ) →
    (before after : ℕ)
    → Type 0
ReadsTypes attribute d result old new before after =
    MatchOption (value_of attribute d)
    ((result ≡ plain BAD_ARGUMENT) × LeavesTypes old new before after)
    (λ value. MatchOption (types_fault value)
    ((result ≡ plain OK) × (new ≡ laid_over (types_in value) old)
    × (after ≡ length (types_in value)))
    (λ _. (result ≡ plain INVALID_DATA) × LeavesTypes old new before after))
