-- The names of attribute types and methods (RFC 8489, sections 18.2 and 18.3), and how types,
-- methods and attributes are printed.
use Rattle.std.specs.Prelude.{ℕ, ◌/◌, ◌%◌, List, [], ◌∷◌, ◌++◌, ◌==◌, if◌then◌else◌, false, codes}
use Rattle.std.specs.Fmt.{decimal, digits, digit_glyph}
use Rattle.std.specs.List.{flat_map}
use Rattle.stun_grammar.specs.AttributeTypes.{MAPPED_ADDRESS, USERNAME, MESSAGE_INTEGRITY, ERROR_CODE, UNKNOWN_ATTRIBUTES, REALM, NONCE, MESSAGE_INTEGRITY_SHA256, PASSWORD_ALGORITHM, USERHASH, XOR_MAPPED_ADDRESS, PASSWORD_ALGORITHMS, ALTERNATE_DOMAIN, SOFTWARE, ALTERNATE_SERVER, FINGERPRINT}

-- the name of a type; the underscore of PASSWORD_ALGORITHMS is kept from the Rust crate
abbrev pub attribute_name : ℕ → List ℕ
attribute_name type =
    if type == MAPPED_ADDRESS then codes "MAPPED-ADDRESS" else (
    if type == USERNAME then codes "USERNAME" else (
    if type == MESSAGE_INTEGRITY then codes "MESSAGE-INTEGRITY" else (
    if type == ERROR_CODE then codes "ERROR-CODE" else (
    if type == UNKNOWN_ATTRIBUTES then codes "UNKNOWN-ATTRIBUTES" else (
    if type == REALM then codes "REALM" else (
    if type == NONCE then codes "NONCE" else (
    if type == MESSAGE_INTEGRITY_SHA256 then codes "MESSAGE-INTEGRITY-SHA256" else (
    if type == PASSWORD_ALGORITHM then codes "PASSWORD-ALGORITHM" else (
    if type == USERHASH then codes "USERHASH" else (
    if type == XOR_MAPPED_ADDRESS then codes "XOR-MAPPED-ADDRESS" else (
    if type == PASSWORD_ALGORITHMS then codes "PASSWORD_ALGORITHMS" else (
    if type == ALTERNATE_DOMAIN then codes "ALTERNATE-DOMAIN" else (
    if type == SOFTWARE then codes "SOFTWARE" else (
    if type == ALTERNATE_SERVER then codes "ALTERNATE-SERVER" else (
    if type == FINGERPRINT then codes "FINGERPRINT" else codes "unknown")))))))))))))))

-- the method of a binding request
abbrev pub BINDING : ℕ
BINDING = 0x0001

-- the name of a method
abbrev pub method_name : ℕ → List ℕ
method_name method = if method == BINDING then codes "BINDING" else codes "unknown"

-- a number that has a name, as it is printed: the number, and in parentheses the number in
-- hexadecimal and the name
abbrev pub numbered_text : ℕ → List ℕ → List ℕ
numbered_text number name =
    decimal number ++ codes "(0x" ++ digits 16 false number ++ codes ": " ++ name ++ codes ")"

-- a type, and a method, as it is printed
abbrev pub attribute_type_text : ℕ → List ℕ
attribute_type_text type = numbered_text type (attribute_name type)

abbrev pub method_text : ℕ → List ℕ
method_text method = numbered_text method (method_name method)

-- a type as `{:?}` prints it
abbrev pub attribute_type_debug : ℕ → List ℕ
attribute_type_debug type = codes "AttributeType(" ++ decimal type ++ codes ")"

-- ---- Bytes in hexadecimal

-- a byte as two digits, in lower case
abbrev pub hex_byte : ℕ → List ℕ
hex_byte byte = digit_glyph false (byte / 16) ∷ digit_glyph false (byte % 16) ∷ []

-- bytes, one after the other
abbrev pub hex : List ℕ → List ℕ
hex = flat_map hex_byte

-- ---- How an attribute is printed: its type, and after it its value

-- the value as it is, in quotation marks, and in hexadecimal
abbrev pub plain_text : ℕ → List ℕ → List ℕ
plain_text type value = attribute_type_text type ++ codes ": " ++ value

abbrev pub quoted_text : ℕ → List ℕ → List ℕ
quoted_text type value = attribute_type_text type ++ codes ": '" ++ value ++ codes "'"

abbrev pub hex_text : ℕ → List ℕ → List ℕ
hex_text type value = attribute_type_text type ++ codes ": 0x" ++ hex value
