-- Numbers as the values of attributes: of 8, 16, 32 and 64 bits, and big-endian. Which of them the
-- values of an attribute type hold is in the definition `known_type` of each crate of attributes.
use Rattle.std.specs.Prelude.{◌≡◌, ℕ, ◌+◌, ◌-◌, ◌^◌, Bool, true, ◌&&◌, ◌||◌, List, ◌++◌, length, replicate, Option, None, Some, Result, Ok, Err, MatchResult, nat_le, ◌==◌, if◌then◌else◌}
use Rattle.std.specs.Option.{option_map, option_map_or, option_or}
use Rattle.byteorder.specs.Endian.{big_number}
use Rattle.stun_grammar.specs.declared.error.StunParseError.{StunParseError}
use Rattle.stun_grammar.specs.AttributeTypes.{is_ending}
use Rattle.stun_grammar.specs.Lengths.{exact_fault}
use Rattle.stun_types.specs.declared.attribute.known.ValueForm.{ValueForm}
use Rattle.stun_types.specs.declared.attribute.known.ValueForm.TheVariants.{Number, PaddedNumber, Octets}
use Rattle.discovery_attrs.specs.Discovery.{RESPONSE_PORT}
use Rattle.stun_plain_text.specs.NamesOfAll.{value_form}
use Rattle.stun_types_c.specs.declared.call_result.CResult.{CResult}
use Rattle.stun_types_c.specs.declared.attribute.ShownAttribute.{ShownAttribute}
use Rattle.stun_types_c.specs.declared.numbers.Range.{Range}
use Rattle.stun_types_c.specs.Codes.{OK, INVALID_DATA, OUT_OF_RANGE, BAD_ARGUMENT}
use Rattle.stun_types_c.specs.CResults.{plain, counted, parse_result, Refuses}
use Rattle.stun_types_c.specs.Values.{value_of}
use Rattle.stun_types_c.specs.Writing.{Written, AppendsUnless, any_answer}

-- ---- Which number the value of a type holds

-- how many bytes the number in a value of a form has: none if the value is no number
abbrev pub width_in : ValueForm → ℕ
width_in (Number width _ _) = width
width_in (PaddedNumber width _ _) = width
width_in (Octets width) = width
width_in _ = 0

-- whether a number of so many bytes may be the value of a type. Of a type that isn't known, any may,
-- and of the three ending types, which an add refuses by another error
abbrev pub has_width : (width type : ℕ) → Bool
has_width width type =
    is_ending type || option_map_or (λ form. width_in form == width) (value_form type) true

-- how many bytes that are 0 follow it
abbrev pub zeros_in : Option ValueForm → ℕ
zeros_in (Some (PaddedNumber width _ _)) = 4 - width
zeros_in _ = 0

abbrev pub zeros_of : ℕ → ℕ
zeros_of type = zeros_in (value_form type)

-- from which number to which: any if the RFC doesn't say
abbrev pub range_in : Option ValueForm → Range
range_in (Some (Number _ least greatest)) = record { least = least; greatest = greatest }
range_in (Some (PaddedNumber _ least greatest)) = record { least = least; greatest = greatest }
range_in _ = record { least = 0; greatest = 2 ^ 64 - 1 }

abbrev pub range_of : ℕ → Range
range_of type = range_in (value_form type)

abbrev pub is_in_range : (type n : ℕ) → Bool
is_in_range type n = nat_le (range_of type).least n && nat_le n (range_of type).greatest

-- ---- Adding one

-- why a number of so many bytes isn't added as the value of a type
abbrev pub number_answer : (width type n : ℕ) → Option CResult
number_answer width type n =
    if has_width width type then
    (if is_in_range type n then None
    else Some (counted OUT_OF_RANGE (range_of type).greatest n))
    else Some (plain BAD_ARGUMENT)

-- the value that a number has, by its bytes: the zeros follow
abbrev pub padded : (type : ℕ) → (octets : List ℕ) → List ℕ
padded type octets = octets ++ replicate (zeros_of type) 0

-- it is added, or the call says why not
abbrev pub AddsUnless : Option CResult → (type : ℕ) → (octets : List ℕ) → CResult → Written
    → Written
    → Type 0
AddsUnless fault type octets result old new =
    AppendsUnless fault (any_answer (length old.slice) type (padded type octets)) type
    (λ _. padded type octets) result old new

abbrev pub AddsPadded : (type : ℕ) → (octets : List ℕ) → CResult → Written → Written → Type 0
AddsPadded = AddsUnless None

-- a number is added, if it may be the value of the type
abbrev pub AddsNumber : (type n : ℕ) → (octets : List ℕ) → CResult → Written → Written → Type 0
AddsNumber type n octets = AddsUnless (number_answer (length octets) type n) type octets

-- ---- Reading one

-- why a value has another length than that of a number with the zeros that follow it. Some programs
-- don't count the zeros of a RESPONSE-PORT
abbrev pub length_fault : (width type length : ℕ) → Option StunParseError
length_fault width type length =
    if type == RESPONSE_PORT && length == width then None
    else exact_fault (width + zeros_of type) length

-- why no number of so many bytes is read in the value of a type
abbrev pub reading_answer : (width type : ℕ) → List ℕ → Option CResult
reading_answer width type value =
    if has_width width type then
    option_or (option_map parse_result (length_fault width type (length value)))
    (if is_in_range type (big_number width value) then None else Some (plain INVALID_DATA))
    else Some (plain BAD_ARGUMENT)

-- the value of an attribute of the message d that begins with such a number, or why it doesn't
abbrev pub value_with_number : (width : ℕ) → ShownAttribute → List ℕ → Result (List ℕ) CResult
value_with_number width attribute d =
    option_map_or (λ value.
    option_map_or (λ answer. Err answer) (reading_answer width attribute.atype value) (Ok value))
    (value_of attribute d) (Err (plain BAD_ARGUMENT))

-- that number is read; the zeros that follow it may be anything
abbrev pub ReadsNumber : (width : ℕ) → ShownAttribute → List ℕ → CResult → (old new : ℕ) → Type 0
ReadsNumber width attribute d result old new =
    MatchResult (value_with_number width attribute d)
    (λ value. (result ≡ plain OK) × (new ≡ big_number width value))
    (λ answer. Refuses answer result old new)
