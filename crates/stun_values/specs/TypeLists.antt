-- Lists of attribute types (RFC 8489, section 14.13).
use Rattle.std.specs.Prelude.{ℕ, zero, suc, ◌+◌, ◌/◌, ◌%◌, ◌^◌, ◌<◌, List, [], ◌∷◌, ◌++◌, length, take, drop, codes, Option, Some, None, ◌==◌, if◌then◌else◌}
use Rattle.std.specs.List.{flat_map, AllByRecursion}
use Rattle.stun_grammar.specs.declared.error.StunParseError.{StunParseError}
use Rattle.stun_grammar.specs.declared.error.StunParseError.TheVariants.{Truncated}
use Rattle.stun_grammar.specs.declared.attribute_type.AttributeType.{AttributeType}
use Rattle.stun_grammar.specs.Numbers.{be16, number}
use Rattle.stun_grammar.specs.AttributeTypes.{UNKNOWN_ATTRIBUTES}
use Rattle.stun_grammar.specs.Names.{plain_text, attribute_type_debug}
use Rattle.stun_text.specs.Lists.{with_commas}

-- a type in two bytes
abbrev pub type_encoding : AttributeType → List ℕ
type_encoding type = be16 type.0

-- the types, one after the other
abbrev pub types_encoding : List AttributeType → List ℕ
types_encoding = flat_map type_encoding

-- the types are numbers of sixteen bits, as the Rust type guarantees
abbrev pub AreTypes : List AttributeType → Type 0
AreTypes = AllByRecursion (λ type. type.0 < 2 ^ 16)

-- why a value isn't a list of types: it has an odd number of bytes
abbrev pub types_fault : List ℕ → Option StunParseError
types_fault value =
    if length value % 2 == 0 then None else Some (Truncated (length value + 1) (length value))

-- the numbers of that many types, and of the types in a whole value
abbrev pub types_within : ℕ → List ℕ → List ℕ
types_within zero value = []
types_within (suc more) value = number (take 2 value) ∷ types_within more (drop 2 value)

abbrev pub types_in : List ℕ → List ℕ
types_in value = types_within (length value / 2) value

-- how an UNKNOWN-ATTRIBUTES of types of these numbers, and of these types, is printed: the types
-- in brackets, each as `{:?}` prints it
abbrev pub types_text : List ℕ → List ℕ
types_text numbers =
    plain_text UNKNOWN_ATTRIBUTES
    (codes "[" ++ with_commas attribute_type_debug numbers ++ codes "]")

abbrev pub listed_text : List AttributeType → List ℕ
listed_text types =
    plain_text UNKNOWN_ATTRIBUTES
    (codes "[" ++ with_commas (λ type. attribute_type_debug type.0) types ++ codes "]")
