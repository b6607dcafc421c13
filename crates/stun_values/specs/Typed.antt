-- The fifteen types that have a typed attribute: what the value of each has to be, and how it is
-- printed.
use Rattle.std.specs.Prelude.{ℕ, Bool, List, [], length, drop, Option, Some, None, ◌==◌, if◌then◌else◌}
use Rattle.std.specs.Net.Text.{socket_text}
use Rattle.std.specs.Option.{is_some, option_map, option_map_or}
use Rattle.stun_grammar.specs.declared.error.StunParseError.{StunParseError}
use Rattle.stun_grammar.specs.declared.integrity_algorithm.IntegrityAlgorithm.TheVariants.{Sha1, Sha256}
use Rattle.stun_grammar.specs.AttributeTypes.{USERNAME, MESSAGE_INTEGRITY, ERROR_CODE, UNKNOWN_ATTRIBUTES, REALM, NONCE, MESSAGE_INTEGRITY_SHA256, PASSWORD_ALGORITHM, USERHASH, XOR_MAPPED_ADDRESS, PASSWORD_ALGORITHMS, ALTERNATE_DOMAIN, SOFTWARE, ALTERNATE_SERVER, FINGERPRINT}
use Rattle.stun_grammar.specs.Lengths.{exact_fault}
use Rattle.stun_grammar.specs.Names.{plain_text, quoted_text, hex_text}
use Rattle.stun_grammar.specs.Verdicts.{hmac_fault}
use Rattle.stun_values.specs.declared.rule.Rule.{Rule}
use Rattle.stun_values.specs.declared.rule.Rule.TheVariants as Is
use Rattle.stun_values.specs.Addresses.{address_fault, address_in, xored_text}
use Rattle.stun_values.specs.Algorithms.{one_algorithm_fault, algorithms_fault, algorithm_at, algorithms_in, algorithm_text, algorithms_text}
use Rattle.stun_values.specs.FingerprintValues.{masked_bytes}
use Rattle.stun_values.specs.ErrorValues.{error_fault, reported_code, error_text}
use Rattle.stun_values.specs.TextValues.{username_max, text_max, text_fault}
use Rattle.stun_values.specs.TypeLists.{types_fault, types_in, types_text}

-- the rule of a type
unfoldable pub rule_of : ℕ → Option Rule
rule_of type =
    if type == USERNAME then Some (Is.Quoted username_max) else (
    if type == MESSAGE_INTEGRITY then Some (Is.Hmac Sha1) else (
    if type == ERROR_CODE then Some Is.ErrorCode else (
    if type == UNKNOWN_ATTRIBUTES then Some Is.Types else (
    if type == REALM then Some (Is.Plain text_max) else (
    if type == NONCE then Some (Is.Plain text_max) else (
    if type == MESSAGE_INTEGRITY_SHA256 then Some (Is.Hmac Sha256) else (
    if type == PASSWORD_ALGORITHM then Some Is.Algorithm else (
    if type == USERHASH then Some Is.Hash else (
    if type == XOR_MAPPED_ADDRESS then Some Is.XorAddress else (
    if type == PASSWORD_ALGORITHMS then Some Is.Algorithms else (
    if type == ALTERNATE_DOMAIN then Some (Is.Plain 65535) else (
    if type == SOFTWARE then Some (Is.Quoted text_max) else (
    if type == ALTERNATE_SERVER then Some Is.Address else (
    if type == FINGERPRINT then Some Is.Checksum else None))))))))))))))

-- whether a type is one of the fifteen
abbrev pub is_typed : ℕ → Bool
is_typed type = is_some (rule_of type)

-- why a value isn't what a rule asks for
abbrev pub rule_fault : Rule → List ℕ → Option StunParseError
rule_fault (Is.Plain most) value = text_fault most value
rule_fault (Is.Quoted most) value = text_fault most value
rule_fault Is.ErrorCode value = error_fault value
rule_fault (Is.Hmac algorithm) value = hmac_fault algorithm (length value)
rule_fault Is.Hash value = exact_fault 32 (length value)
rule_fault Is.Checksum value = exact_fault 4 (length value)
rule_fault Is.Algorithm value = one_algorithm_fault value
rule_fault Is.Algorithms value = algorithms_fault value
rule_fault Is.Types value = types_fault value
rule_fault Is.Address value = address_fault value
rule_fault Is.XorAddress value = address_fault value

-- how a value that is what a rule asks for is printed, after its type
abbrev pub rule_text : Rule → ℕ → List ℕ → List ℕ
rule_text (Is.Plain most) type value = plain_text type value
rule_text (Is.Quoted most) type value = quoted_text type value
rule_text Is.ErrorCode type value = error_text (reported_code value) (drop 4 value)
rule_text (Is.Hmac algorithm) type value = hex_text type value
rule_text Is.Hash type value = hex_text type value
rule_text Is.Checksum type value = hex_text type (masked_bytes value)
rule_text Is.Algorithm type value = algorithm_text (algorithm_at value)
rule_text Is.Algorithms type value = algorithms_text (algorithms_in value)
rule_text Is.Types type value = types_text (types_in value)
rule_text Is.Address type value = plain_text type (socket_text (address_in value))
rule_text Is.XorAddress type value = plain_text type (xored_text (address_in value))

-- whether a value of a type is refused, and why; None if the type is not one of the fifteen
abbrev pub value_fault : ℕ → List ℕ → Option (Option StunParseError)
value_fault type value = option_map (λ rule. rule_fault rule value) (rule_of type)

-- how a value of a type is printed if reading accepts it; nothing if the type is not one of
-- the fifteen
abbrev pub value_text : ℕ → List ℕ → List ℕ
value_text type value = option_map_or (λ rule. rule_text rule type value) (rule_of type) []
