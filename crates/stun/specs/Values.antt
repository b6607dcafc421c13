-- Which values are not what their types ask for.
use Rattle.std.specs.Prelude.{ℕ, zero, suc, ◌+◌, ◌/◌, ◌%◌, ◌&&◌, Bool, List, length, drop, slice_range, Option, Some, None, is_some, nat_lt, nat_le, ◌==◌, if◌then◌else◌}
use Rattle.std.specs.Option.{option_map_or, option_or}
use Rattle.std.specs.List.{list_any}
use Rattle.byteorder.specs.Endian.{big_number}
use Rattle.stun_grammar.specs.declared.error.StunParseError.{StunParseError}
use Rattle.stun_grammar.specs.declared.error.StunParseError.TheVariants.{Truncated, TooLarge, InvalidAttributeData}
use Rattle.stun_grammar.specs.AttributeTypes.{PASSWORD_ALGORITHM, PASSWORD_ALGORITHMS}
use Rattle.stun_grammar.specs.Chains.{Shown}
use Rattle.stun_grammar.specs.Lengths.{exact_fault}
use Rattle.stun_grammar.specs.Numbers.{number}
use Rattle.stun_grammar.specs.Showing.{shown}
use Rattle.stun_types.specs.declared.attribute.known.ValueForm.{ValueForm}
use Rattle.stun_types.specs.declared.attribute.known.ValueForm.TheVariants.{Number, PaddedNumber, Octets, Address, XorAddress, Other}
use Rattle.stun_values.specs.Addresses.{address_fault}
use Rattle.stun_values.specs.TextValues.{text_fault}
use Rattle.stun_values.specs.Typed.{value_fault}
use Rattle.ice_attrs.specs.Ice.{USE_CANDIDATE}
use Rattle.turn_attrs.specs.Turn.{ADDRESS_ERROR_CODE, DONT_FRAGMENT, THIRD_PARTY_AUTHORIZATION, address_error_fault}
use Rattle.discovery_attrs.specs.Discovery.{RESPONSE_PORT, response_port_fault}
use Rattle.stun_plain_text.specs.NamesOfAll.{value_form}

-- ---- By the form of the values of a type

-- the number in the first bytes of a value, 1 to 8 of them, if it has so many
abbrev pub number_in : ℕ → List ℕ → Option ℕ
number_in width value =
    if nat_le 1 width && (nat_le width 8 && nat_le width (length value))
    then Some (big_number width value) else None

-- why a value doesn't begin with a number from the least to the greatest
abbrev pub outside_fault : (width least greatest : ℕ) → List ℕ → Option StunParseError
outside_fault width least greatest value =
    option_map_or
    (λ n. if nat_le least n && nat_le n greatest then None else Some InvalidAttributeData)
    (number_in width value) (Some InvalidAttributeData)

-- why a value isn't so many bytes that begin with such a number
abbrev pub number_fault : (width count least greatest : ℕ) → List ℕ → Option StunParseError
number_fault width count least greatest value =
    option_or (exact_fault count (length value)) (outside_fault width least greatest value)

-- why a value doesn't have a form; a number that is padded has four bytes with what follows it
abbrev pub form_fault : ValueForm → List ℕ → Option StunParseError
form_fault (Number width least greatest) value = number_fault width width least greatest value
form_fault (PaddedNumber width least greatest) value = number_fault width 4 least greatest value
form_fault (Octets width) value = exact_fault width (length value)
form_fault Address value = address_fault value
form_fault XorAddress value = address_fault value
form_fault Other value = None

-- ---- Password algorithms (RFC 8489, sections 14.11 and 14.12): a number in two bytes, and the length
-- of the parameters, 0, in two. The number may be that of an algorithm that isn't known

-- why so many bytes are no whole number of algorithms, or none
abbrev pub no_entries_fault : List ℕ → Option StunParseError
no_entries_fault value =
    if nat_lt (length value) 4 then Some (Truncated 4 (length value)) else (
    if length value % 4 == 0 then None else Some InvalidAttributeData)

-- why the algorithm that a value begins with is none
abbrev pub parameters_fault : List ℕ → Option StunParseError
parameters_fault value =
    if number (slice_range value 2 4) == 0 then None
    else Some (TooLarge 4 (4 + number (slice_range value 2 4)))

-- why one of the first algorithms is none
unfoldable pub parameters_within : ℕ → List ℕ → Option StunParseError
parameters_within zero value = None
parameters_within (suc more) value =
    option_or (parameters_fault value) (parameters_within more (drop 4 value))

abbrev pub one_fault : List ℕ → Option StunParseError
one_fault value = option_or (no_entries_fault value) (parameters_fault value)

abbrev pub list_fault : List ℕ → Option StunParseError
list_fault value =
    option_or (no_entries_fault value) (parameters_within (length value / 4) value)

-- ---- By the type

-- by the form of the values of a type; one that isn't known asks for nothing
abbrev pub known_form_fault : ℕ → List ℕ → Option StunParseError
known_form_fault type value =
    option_map_or (λ form. form_fault form value) (value_form type) None

-- by the rule of the library for the type, or by the form of its values
abbrev pub known_fault : ℕ → List ℕ → Option StunParseError
known_fault type value =
    option_map_or (λ fault. fault) (value_fault type value) (known_form_fault type value)

-- why a value isn't what its type asks for
unfoldable pub fault_of : ℕ → List ℕ → Option StunParseError
fault_of type value =
    if type == PASSWORD_ALGORITHM then one_fault value else (
    if type == PASSWORD_ALGORITHMS then list_fault value else (
    if type == RESPONSE_PORT then response_port_fault value else (
    if type == ADDRESS_ERROR_CODE then address_error_fault value else (
    if type == THIRD_PARTY_AUTHORIZATION then text_fault 65535 value else (
    if type == USE_CANDIDATE then exact_fault 0 (length value) else (
    if type == DONT_FRAGMENT then exact_fault 0 (length value) else known_fault type value))))))

abbrev pub is_malformed : Shown → Bool
is_malformed attribute = is_some (fault_of attribute.type attribute.value)

-- an attribute that d shows is malformed
abbrev pub shows_malformed : List ℕ → Bool
shows_malformed d = list_any is_malformed (shown d)
