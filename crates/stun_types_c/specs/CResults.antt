-- What a call answers to C: a code and what it is about.
use Rattle.std.specs.Prelude.{◌≡◌, ℕ, Option, None, Some}
use Rattle.stun_grammar.specs.declared.error.StunParseError.{StunParseError}
use Rattle.stun_grammar.specs.declared.error.StunParseError.TheVariants as Parse
use Rattle.stun_grammar.specs.declared.error.AddError.{AddError}
use Rattle.stun_grammar.specs.declared.error.AddError.TheVariants as Add
use Rattle.stun_grammar.specs.declared.error.StunWriteError.{StunWriteError}
use Rattle.stun_grammar.specs.declared.error.StunWriteError.TheVariants as Write
use Rattle.stun_grammar.specs.declared.error.ValidateError.{ValidateError}
use Rattle.stun_grammar.specs.declared.error.ValidateError.TheVariants as Validate
use Rattle.stun_grammar.specs.AttributeTypes.{MESSAGE_INTEGRITY, FINGERPRINT}
use Rattle.stun_types_c.specs.declared.call_result.CResult.{CResult}
use Rattle.stun_types_c.specs.Codes.{OK, NOT_STUN, TRUNCATED, TOO_LARGE, FINGERPRINT_MISMATCH, MISSING_ATTRIBUTE, INVALID_DATA, INTEGRITY_FAILED, OUT_OF_MEMORY, TOO_SMALL, EXISTS, ENDING_TYPE, OUT_OF_RANGE}

-- a code alone
abbrev pub plain : ℕ → CResult
plain code = record { code = code; atype = 0; expected = 0; actual = 0 }

-- a code about an attribute of a type
abbrev pub about : ℕ → ℕ → CResult
about code type = record { code = code; atype = type; expected = 0; actual = 0 }

-- a code with what is needed or allowed, and what there is
abbrev pub counted : ℕ → ℕ → ℕ → CResult
counted code expected actual =
    record { code = code; atype = 0; expected = expected; actual = actual }

-- a call answers no, and C's place stays
abbrev pub Refuses : {T : Type 0} → CResult → CResult → (old new : T) → Type 0
Refuses answer result old new = (result ≡ answer) × (new ≡ old)

-- why bytes aren't read; what no function of the libraries below answers is invalid data too
abbrev pub parse_result : StunParseError → CResult
parse_result Parse.NotStun = plain NOT_STUN
parse_result (Parse.Truncated expected actual) = counted TRUNCATED expected actual
parse_result (Parse.TooLarge expected actual) = counted TOO_LARGE expected actual
parse_result (Parse.MissingAttribute type) = about MISSING_ATTRIBUTE type.0
parse_result Parse.FingerprintMismatch = plain FINGERPRINT_MISMATCH
parse_result Parse.OutOfMemory = plain OUT_OF_MEMORY
parse_result _ = plain INVALID_DATA

-- why an attribute or a message isn't made or written
abbrev pub write_result : StunWriteError → CResult
write_result (Write.AttributeExists type) = about EXISTS type.0
write_result Write.FingerprintExists = about EXISTS FINGERPRINT
write_result Write.MessageIntegrityExists = about EXISTS MESSAGE_INTEGRITY
write_result (Write.TooLarge expected actual) = counted TOO_LARGE expected actual
write_result (Write.TooSmall expected actual) = counted TOO_SMALL expected actual
write_result Write.IntegrityFailed = plain INVALID_DATA
write_result (Write.OutOfRange value min max) = counted OUT_OF_RANGE max value
write_result Write.OutOfMemory = plain OUT_OF_MEMORY

-- why an attribute of any type isn't added
abbrev pub add_result : AddError → CResult
add_result (Add.EndingType type) = about ENDING_TYPE type.0
add_result (Add.Write e) = write_result e

-- why a message isn't valid
abbrev pub validate_result : ValidateError → CResult
validate_result (Validate.Parse e) = parse_result e
validate_result Validate.IntegrityFailed = plain INTEGRITY_FAILED

-- OK, or why bytes aren't read
abbrev pub fault_result : Option StunParseError → CResult
fault_result None = plain OK
fault_result (Some e) = parse_result e
