-- The report of a message, which the program prints.
use Rattle.std.specs.Prelude.{ℕ, List, [], ◌∷◌, ◌++◌, length, codes, is_some, if◌then◌else◌, Option, None, Result, Ok, Err}
use Rattle.std.specs.List.{flat_map}
use Rattle.std.specs.Option.{option_map_or}
use Rattle.std.specs.Fmt.{decimal}
use Rattle.stun_grammar.specs.declared.error.StunParseError.{StunParseError}
use Rattle.stun_grammar.specs.declared.error.StunParseError.TheVariants.{NotStun, Truncated, TooLarge, FingerprintMismatch, MissingAttribute}
use Rattle.stun_grammar.specs.declared.error.ValidateError.{ValidateError}
use Rattle.stun_grammar.specs.declared.error.ValidateError.TheVariants.{Parse, IntegrityFailed}
use Rattle.stun_grammar.specs.declared.integrity_algorithm.IntegrityAlgorithm.{IntegrityAlgorithm}
use Rattle.stun_grammar.specs.declared.integrity_algorithm.IntegrityAlgorithm.TheVariants.{Sha1, Sha256}
use Rattle.stun_grammar.specs.Verdicts.{verdict, is_checked_type}
use Rattle.stun_grammar.specs.Numbers.{be16}
use Rattle.stun_grammar.specs.Names.{hex}
use Rattle.stun_grammar.specs.Chains.{Shown}
use Rattle.stun_grammar.specs.Parsing.{parse_fault}
use Rattle.stun_grammar.specs.Showing.{shown}
use Rattle.stun_base.specs.MessageTypes.{Header, header_of, class_of, method_of, class_name, id_text}
use Rattle.stun_show.specs.declared.report.RunEnd.{RunEnd}
use Rattle.stun_show.specs.declared.report.RunEnd.TheVariants.{Shown as EndsShown, Refused as EndsRefused}

-- the end of each line
abbrev pub line_feed : List ℕ
line_feed = 10 ∷ []

-- the class, the method in decimal, the transaction ID in hexadecimal, the length field in decimal
abbrev pub header_line : Header → List ℕ
header_line header =
    class_name (class_of header.type) ++ codes " method=" ++ decimal (method_of header.type)
    ++ codes " id=" ++ id_text header.id ++ codes " length=" ++ decimal header.length ++ line_feed

-- a value in hexadecimal, or a dash if it is empty
abbrev pub value_text : List ℕ → List ℕ
value_text [] = codes "-"
value_text (byte ∷ bytes) = hex (byte ∷ bytes)

-- the offset, the type in four hexadecimal digits, the length of the value, and the value
abbrev pub attribute_line : Shown → List ℕ
attribute_line attribute =
    decimal attribute.offset ++ codes " 0x" ++ hex (be16 attribute.type)
    ++ codes " " ++ decimal (length attribute.value)
    ++ codes " " ++ value_text attribute.value ++ line_feed

-- why bytes are refused; parsing reports no other errors than these four
abbrev pub refusal_line : StunParseError → List ℕ
refusal_line NotStun = codes "not STUN" ++ line_feed
refusal_line (Truncated expected actual) =
    codes "truncated " ++ decimal expected ++ codes " " ++ decimal actual ++ line_feed
refusal_line (TooLarge expected actual) =
    codes "too large " ++ decimal expected ++ codes " " ++ decimal actual ++ line_feed
refusal_line FingerprintMismatch = codes "fingerprint mismatch" ++ line_feed
refusal_line _ = []

-- the verdict on a message with a password as its short-term key
abbrev pub password_verdict : List ℕ → List ℕ → Result IntegrityAlgorithm ValidateError
password_verdict d password = verdict (is_checked_type None) (λ _. password) d

-- a verdict in one word
abbrev pub integrity_word : Result IntegrityAlgorithm ValidateError → List ℕ
integrity_word (Ok Sha1) = codes "Sha1"
integrity_word (Ok Sha256) = codes "Sha256"
integrity_word (Err (Parse (MissingAttribute type))) = codes "missing"
integrity_word (Err (Parse _)) = codes "malformed"
integrity_word (Err IntegrityFailed) = codes "failed"

-- the line that states a verdict
abbrev pub integrity_line : Result IntegrityAlgorithm ValidateError → List ℕ
integrity_line answer = codes "integrity: " ++ integrity_word answer ++ line_feed

-- the last line, if a password is given
abbrev pub integrity_lines : List ℕ → Option (List ℕ) → List ℕ
integrity_lines d password =
    option_map_or (λ key. integrity_line (password_verdict d key)) password []

-- a line for the header, one for each attribute that is shown, and with a password one for the
-- verdict; if d is refused, one line that says why
unfoldable pub report : List ℕ → Option (List ℕ) → List ℕ
report d password =
    option_map_or refusal_line (parse_fault d)
    (header_line (header_of d) ++ flat_map attribute_line (shown d) ++ integrity_lines d password)

-- how the run ends once a message with this verdict was shown
abbrev pub end_of_verdict : Result IntegrityAlgorithm ValidateError → RunEnd
end_of_verdict (Ok algorithm) = EndsShown
end_of_verdict (Err e) = EndsRefused

-- how the run ends once a message was shown: with a password, by its verdict
abbrev pub end_of_message : List ℕ → Option (List ℕ) → RunEnd
end_of_message d password =
    option_map_or (λ key. end_of_verdict (password_verdict d key)) password EndsShown

-- how the run ends once the report of d was written
unfoldable pub end_of : List ℕ → Option (List ℕ) → RunEnd
end_of d password = if is_some (parse_fault d) then EndsRefused else end_of_message d password
