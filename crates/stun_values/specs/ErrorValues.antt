-- Error codes and their reasons as values (RFC 8489, section 14.8).
use Rattle.std.specs.Prelude.{ℕ, ◌+◌, ◌*◌, ◌/◌, ◌%◌, Bool, ◌&&◌, List, ◌∷◌, ◌++◌, length, drop, codes, slice_index, Option, Some, None, nat_lt, nat_le, if◌then◌else◌}
use Rattle.std.specs.Str.{is_utf8}
use Rattle.std.specs.Fmt.{decimal}
use Rattle.std.specs.Option.{option_or}
use Rattle.stun_grammar.specs.declared.error.StunParseError.{StunParseError}
use Rattle.stun_grammar.specs.declared.error.StunParseError.TheVariants.{InvalidAttributeData}
use Rattle.stun_grammar.specs.declared.error.StunWriteError.{StunWriteError}
use Rattle.stun_grammar.specs.declared.error.StunWriteError.TheVariants as Write
use Rattle.stun_grammar.specs.AttributeTypes.{ERROR_CODE}
use Rattle.stun_grammar.specs.Names.{plain_text}
use Rattle.stun_grammar.specs.Lengths.{range_fault}
use Rattle.stun_values.specs.TextValues.{text_max}

-- two zeros, the class of the code (its hundreds) and its number (the rest) in a byte each, and the
-- reason
abbrev pub error_value : ℕ → List ℕ → List ℕ
error_value code reason = 0 ∷ 0 ∷ (code / 100) ∷ (code % 100) ∷ reason

-- why no value is made of a code and a reason
abbrev pub making_fault : ℕ → List ℕ → Option StunWriteError
making_fault code reason =
    if nat_le 300 code && nat_le code 699 then (
    if nat_lt text_max (length reason) then Some (Write.TooLarge text_max (length reason))
    else None)
    else Some (Write.OutOfRange code 300 699)

-- the class in a value; the bits above its low three are ignored, and so are its first two bytes
abbrev pub code_class : List ℕ → ℕ
code_class value = slice_index value 2 % 8

-- the code in a value
abbrev pub reported_code : List ℕ → ℕ
reported_code value = 100 * code_class value + slice_index value 3

-- the class and the number are those of a code
abbrev pub tells_code : List ℕ → Bool
tells_code value =
    nat_le 3 (code_class value) && (nat_le (code_class value) 6 && nat_le (slice_index value 3) 99)

-- why a value isn't a code and a reason
abbrev pub error_fault : List ℕ → Option StunParseError
error_fault value =
    option_or (range_fault 4 (4 + text_max) (length value))
    (if tells_code value && is_utf8 (drop 4 value) then None else Some InvalidAttributeData)

-- how a code and a reason are printed: the reason in quotation marks
abbrev pub error_text : ℕ → List ℕ → List ℕ
error_text code reason = plain_text ERROR_CODE (decimal code ++ codes " '" ++ reason ++ codes "'")
