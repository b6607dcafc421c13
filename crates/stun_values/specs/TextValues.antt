-- Values that are texts (RFC 8489, sections 14.3, 14.9, 14.10, 14.14 and 14.16).
use Rattle.std.specs.Prelude.{ℕ, List, length, Option, Some, None, if◌then◌else◌}
use Rattle.std.specs.Str.{is_utf8}
use Rattle.std.specs.Option.{option_or}
use Rattle.stun_grammar.specs.declared.error.StunParseError.{StunParseError}
use Rattle.stun_grammar.specs.declared.error.StunParseError.TheVariants.{InvalidAttributeData}
use Rattle.stun_grammar.specs.Lengths.{range_fault}

-- the most bytes of a USERNAME
abbrev pub username_max : ℕ
username_max = 513

-- the most bytes of a REALM, a NONCE, a SOFTWARE, and the reason of an ERROR-CODE: 127 characters
abbrev pub text_max : ℕ
text_max = 763

-- why a value isn't a text of at most that many bytes: the length is tested first, and then that it
-- is UTF-8
abbrev pub text_fault : ℕ → List ℕ → Option StunParseError
text_fault most value =
    option_or (range_fault 0 most (length value))
    (if is_utf8 value then None else Some InvalidAttributeData)
