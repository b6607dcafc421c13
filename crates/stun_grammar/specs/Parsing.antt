-- Why bytes are refused (RFC 8489, sections 6.3 and 14).
use Rattle.std.specs.Prelude.{ℕ, ◌+◌, List, length, drop, Option, None, ◌==◌, if◌then◌else◌}
use Rattle.std.specs.Option.{option_or}
use Rattle.stun_grammar.specs.declared.error.StunParseError.{StunParseError}
use Rattle.stun_grammar.specs.declared.error.StunParseError.TheVariants.{NotStun, Truncated, TooLarge, FingerprintMismatch}
use Rattle.stun_grammar.specs.Attributes.{Attribute, types, encodings}
use Rattle.stun_grammar.specs.Chains.{chain, rest, fault, placed}
use Rattle.stun_grammar.specs.ScannedOrder.{in_any_order}
use Rattle.stun_grammar.specs.Prefixes.{longest_prefix}
use Rattle.stun_grammar.specs.Showing.{frame_fault}
use Rattle.stun_grammar.specs.Fingerprints.{first_fingerprint_fault}

-- the longest prefix of a chain in an order that is scanned
abbrev pub scanned_prefix : List Attribute → List Attribute
scanned_prefix = longest_prefix (λ prefix. in_any_order (types prefix))

-- why what follows the header is refused: the FINGERPRINT that is scanned, or else, if all
-- attributes are scanned, the bytes after them
unfoldable pub body_fault : List ℕ → Option StunParseError
body_fault d =
    let attributes = chain (drop 20 d) in
    let scanned = scanned_prefix attributes in
    option_or (first_fingerprint_fault d (placed 20 scanned))
    (if length scanned == length attributes
    then fault (20 + length (encodings attributes)) (rest (drop 20 d)) else None)

-- why d is refused; nothing if it parses
unfoldable pub parse_fault : List ℕ → Option StunParseError
parse_fault d = option_or (frame_fault d) (body_fault d)

-- the errors that parsing returns
abbrev pub IsRefusal : StunParseError → Type 0
IsRefusal NotStun = Unit {0}
IsRefusal (Truncated expected actual) = Unit {0}
IsRefusal (TooLarge expected actual) = Unit {0}
IsRefusal FingerprintMismatch = Unit {0}
IsRefusal _ = ⊥
