-- Reading a value as an error code, and making one of a code and a reason.
use Rattle.std.proofs.Common.{◌≡◌, ℕ, ◌%◌, ◌<◌, ◌≤◌, true, false, List, length, drop, Some, None, refl, inl, inr, slice_index}
use Rattle.std.specs.Str.{is_utf8, IsUtf8}
use Rattle.std.proofs.lemmas.Bool.{cases_Bool, lt-ltb, le-ltb, lt-leb, le-leb}
use Rattle.std.proofs.lemmas.Str.{IsUtf8-from_is_utf8, is_utf8-from_IsUtf8}
use Rattle.stun_grammar.specs.declared.error.StunParseError.{StunParseError}
use Rattle.stun_grammar.specs.declared.error.StunParseError.TheVariants.{InvalidAttributeData}
use Rattle.stun_grammar.specs.declared.error.StunWriteError.TheVariants as Write
use Rattle.stun_grammar.specs.Lengths.{range_fault}
use Rattle.stun_values.specs.TextValues.{text_max}
use Rattle.stun_values.specs.ErrorValues.{making_fault, code_class, tells_code, error_fault}

pub tells : (value : List ℕ) → 3 ≤ slice_index value 2 % 8 → slice_index value 2 % 8 ≤ 6 → slice_index value 3 ≤ 99 → tells_code value ≡ true
tells value low high rest = rw (le-leb 3 (code_class value) low, le-leb (code_class value) 6 high, le-leb (slice_index value 3) 99 rest) refl

pub low_class : (value : List ℕ) → slice_index value 2 % 8 < 3 → tells_code value ≡ false
low_class value low = rw (lt-leb 3 (code_class value) low) refl

pub high_class : (value : List ℕ) → 3 ≤ slice_index value 2 % 8 → 6 < slice_index value 2 % 8 → tells_code value ≡ false
high_class value low high = rw (le-leb 3 (code_class value) low, lt-leb (code_class value) 6 high) refl

pub high_number : (value : List ℕ) → 3 ≤ slice_index value 2 % 8 → slice_index value 2 % 8 ≤ 6 → 99 < slice_index value 3 → tells_code value ≡ false
high_number value low high rest = rw (le-leb 3 (code_class value) low, le-leb (code_class value) 6 high, lt-leb (slice_index value 3) 99 rest) refl

pub wrong_length : (value : List ℕ) (e : StunParseError) → range_fault 4 767 (length value) ≡ Some e → error_fault value ≡ Some e
wrong_length value e fault = rw fault refl

pub no_code : (value : List ℕ) → range_fault 4 767 (length value) ≡ None → tells_code value ≡ false → error_fault value ≡ Some InvalidAttributeData
no_code value fits none = rw (fits, none) refl

pub no_text : (value : List ℕ) → range_fault 4 767 (length value) ≡ None → (IsUtf8 (drop 4 value) → ⊥) → tells_code value ≡ true → error_fault value ≡ Some InvalidAttributeData
no_text value fits not code = elim (cases_Bool (is_utf8 (drop 4 value))) [
  | inl valid ↦ absurd (not (IsUtf8-from_is_utf8 (drop 4 value) valid))
  | inr invalid ↦ rw (fits, code, invalid) refl
]

pub is_error : (value : List ℕ) → range_fault 4 767 (length value) ≡ None → tells_code value ≡ true → IsUtf8 (drop 4 value) → error_fault value ≡ None
is_error value fits code text = rw (fits, code, is_utf8-from_IsUtf8 (drop 4 value) text) refl

-- ---- Making

pub below_range : (code : ℕ) (reason : List ℕ) → code < 300 → making_fault code reason ≡ Some (Write.OutOfRange code 300 699)
below_range code reason low = rw (lt-leb 300 code low) refl

pub above_range : (code : ℕ) (reason : List ℕ) → 300 ≤ code → 699 < code → making_fault code reason ≡ Some (Write.OutOfRange code 300 699)
above_range code reason least high = rw (le-leb 300 code least, lt-leb code 699 high) refl

pub long_reason : (code : ℕ) (reason : List ℕ) → 300 ≤ code → code ≤ 699 → text_max < length reason → making_fault code reason ≡ Some (Write.TooLarge text_max (length reason))
long_reason code reason least most long = rw (le-leb 300 code least, le-leb code 699 most, lt-ltb text_max (length reason) long) refl

pub can_be_made : (code : ℕ) (reason : List ℕ) → 300 ≤ code → code ≤ 699 → length reason ≤ text_max → making_fault code reason ≡ None
can_be_made code reason least most short = rw (le-leb 300 code least, le-leb code 699 most, le-ltb text_max (length reason) short) refl
