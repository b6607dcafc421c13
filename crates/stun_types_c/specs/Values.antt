-- Values of attributes of a message, and what reading an error answers (RFC 8489, section 14.8).
use Rattle.std.specs.Prelude.{◌≡◌, ℕ, ◌+◌, ◌-◌, List, length, slice_range, Option, None, Some, nat_lt, if◌then◌else◌, MatchOption}
use Rattle.stun_values.specs.ErrorValues.{error_fault, reported_code}
use Rattle.stun_types_c.specs.declared.call_result.CResult.{CResult}
use Rattle.stun_types_c.specs.declared.attribute.ShownAttribute.{ShownAttribute}
use Rattle.stun_types_c.specs.Codes.{OK, BAD_ARGUMENT}
use Rattle.stun_types_c.specs.CResults.{plain, parse_result}

-- the offset of the first value that a message can have
abbrev pub first_value : ℕ
first_value = 24

-- the value of an attribute of the message d, if that is within d
abbrev pub value_of : ShownAttribute → List ℕ → Option (List ℕ)
value_of attribute d =
    if nat_lt attribute.value_at first_value then None else (
    if nat_lt (length d) (attribute.value_at + attribute.length) then None
    else Some (slice_range d attribute.value_at (attribute.value_at + attribute.length)))

-- what is reported of an error: its code, and where its reason is
pub record ErrorOut : Type 0 where
  pub code : ℕ
  pub reason_at : ℕ
  pub reason_length : ℕ

-- the error in a value that begins at an offset
abbrev pub error_reported : ℕ → List ℕ → ErrorOut
error_reported at value = record {
  code = reported_code value;
  reason_at = at + 4;
  reason_length = length value - 4;
}

-- what reading the error in an attribute of d answers
abbrev pub ReadsError : ShownAttribute → List ℕ → CResult → ErrorOut → ErrorOut → Type 0
ReadsError attribute d result old new =
    MatchOption (value_of attribute d)
    ((result ≡ plain BAD_ARGUMENT) × (new ≡ old))
    (λ value. MatchOption (error_fault value)
    ((result ≡ plain OK) × (new ≡ error_reported attribute.value_at value))
    (λ e. (result ≡ parse_result e) × (new ≡ old)))
