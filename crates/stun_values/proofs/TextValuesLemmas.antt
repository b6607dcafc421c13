-- Reading a value as a text.
use Rattle.std.proofs.Common.{◌≡◌, ℕ, List, length, Some, None, refl, inl, inr}
use Rattle.std.specs.Str.{is_utf8, IsUtf8}
use Rattle.std.proofs.lemmas.Bool.{cases_Bool}
use Rattle.std.proofs.lemmas.Str.{IsUtf8-from_is_utf8, is_utf8-from_IsUtf8}
use Rattle.stun_grammar.specs.declared.error.StunParseError.{StunParseError}
use Rattle.stun_grammar.specs.declared.error.StunParseError.TheVariants.{InvalidAttributeData}
use Rattle.stun_grammar.specs.Lengths.{range_fault}
use Rattle.stun_values.specs.TextValues.{text_fault}

pub refused : (most : ℕ) (value : List ℕ) (e : StunParseError) → range_fault 0 most (length value) ≡ Some e → text_fault most value ≡ Some e
refused most value e reported = rw reported refl

pub not_utf8 : (most : ℕ) (value : List ℕ) → range_fault 0 most (length value) ≡ None → (IsUtf8 value → ⊥) → text_fault most value ≡ Some InvalidAttributeData
not_utf8 most value none not = elim (cases_Bool (is_utf8 value)) [
  | inl valid ↦ absurd (not (IsUtf8-from_is_utf8 value valid))
  | inr invalid ↦ rw (none, invalid) refl
]

pub is_text : (most : ℕ) (value : List ℕ) → range_fault 0 most (length value) ≡ None → IsUtf8 value → text_fault most value ≡ None
is_text most value none text = rw (none, is_utf8-from_IsUtf8 value text) refl
