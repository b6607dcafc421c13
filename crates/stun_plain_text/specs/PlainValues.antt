-- How the value of an attribute is printed.
use Rattle.std.specs.Prelude.{ℕ, ◌==◌, Option, Some, List, ◌++◌, length, codes, if◌then◌else◌}
use Rattle.std.specs.Fmt.{decimal}
use Rattle.std.specs.Net.Text.{socket_text}
use Rattle.std.specs.Option.{option_map_or}
use Rattle.stun_text.specs.Lists.{with_commas}
use Rattle.stun_grammar.specs.AttributeTypes.{UNKNOWN_ATTRIBUTES}
use Rattle.stun_grammar.specs.Names.{hex, numbered_text}
use Rattle.stun_grammar.specs.Numbers.{number}
use Rattle.stun_values.specs.Addresses.{address_fault, address_in, xored_text}
use Rattle.stun_values.specs.TypeLists.{types_fault, types_in}
use Rattle.stun_values.specs.Typed.{value_fault, value_text}
use Rattle.stun_types.specs.declared.attribute.known.ValueForm.{ValueForm}
use Rattle.stun_types.specs.declared.attribute.known.ValueForm.TheVariants.{Number, Address, XorAddress}
use Rattle.stun_plain_text.specs.NamesOfAll.{type_name, value_form}

-- bytes in hexadecimal
abbrev pub octets_text : List ℕ → List ℕ
octets_text value = codes "0x" ++ hex value

-- a number of four bytes in decimal; of another length, the bytes
abbrev pub number_text : List ℕ → List ℕ
number_text value = if length value == 4 then decimal (number value) else octets_text value

-- an address, and one that is XORed; what is none, as bytes
abbrev pub address_text : List ℕ → List ℕ
address_text value =
    option_map_or (λ fault. octets_text value) (address_fault value)
    (socket_text (address_in value))

abbrev pub xor_address_text : List ℕ → List ℕ
xor_address_text value =
    option_map_or (λ fault. octets_text value) (address_fault value)
    (xored_text (address_in value))

-- a value by the form of the values of its type
abbrev pub text_by_form : Option ValueForm → List ℕ → List ℕ
text_by_form (Some (Number _ _ _)) value = number_text value
text_by_form (Some Address) value = address_text value
text_by_form (Some XorAddress) value = xor_address_text value
text_by_form _ value = octets_text value

-- a value of a type that none of the fifteen typed attributes of RFC 8489 has
abbrev pub other_value_text : ℕ → List ℕ → List ℕ
other_value_text type = text_by_form (value_form type)

-- a type, by its number and its name
abbrev pub type_text : ℕ → List ℕ
type_text type = numbered_text type (type_name type)

-- an attribute of another type than the fifteen, and one of the fifteen whose value is refused
abbrev pub other_text : ℕ → List ℕ → List ℕ
other_text type value = type_text type ++ codes ": " ++ other_value_text type value

abbrev pub malformed_type_text : ℕ → List ℕ
malformed_type_text type = type_text type ++ codes "(Malformed): "

abbrev pub malformed_text : ℕ → List ℕ → List ℕ
malformed_text type value = malformed_type_text type ++ octets_text value

-- an UNKNOWN-ATTRIBUTES (RFC 8489, section 14.13): the types that it lists, by number and name, in
-- brackets
abbrev pub listed_types_text : List ℕ → List ℕ
listed_types_text value =
    type_text UNKNOWN_ATTRIBUTES ++ codes ": [" ++ with_commas type_text (types_in value) ++ codes "]"

abbrev pub unknown_attributes_text : List ℕ → List ℕ
unknown_attributes_text value =
    option_map_or (λ fault. malformed_text UNKNOWN_ATTRIBUTES value) (types_fault value)
    (listed_types_text value)

-- an attribute of another type: one of the fifteen as `{}` prints it
abbrev pub typed_or_other_text : ℕ → List ℕ → List ℕ
typed_or_other_text type value =
    option_map_or (λ fault.
    option_map_or (λ e. malformed_text type value) fault (value_text type value))
    (value_fault type value) (other_text type value)

-- an attribute of a type and a value
abbrev pub attribute_text : ℕ → List ℕ → List ℕ
attribute_text type value =
    if type == UNKNOWN_ATTRIBUTES then unknown_attributes_text value
    else (typed_or_other_text type value)
