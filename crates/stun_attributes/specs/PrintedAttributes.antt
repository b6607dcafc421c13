-- How a raw attribute is printed.
use Rattle.std.specs.Prelude.{ℕ, Bool, true, false, List, ◌++◌, length, codes}
use Rattle.std.specs.Fmt.{decimal}
use Rattle.std.specs.Option.{option_map_or}
use Rattle.stun_text.specs.Lists.{with_commas}
use Rattle.stun_grammar.specs.Names.{attribute_type_text, attribute_type_debug}
use Rattle.stun_values.specs.Typed.{value_fault, value_text}

-- bytes in decimal, with a comma and a space between them
abbrev pub bytes_in_decimal : List ℕ → List ℕ
bytes_in_decimal = with_commas decimal

-- the bytes of a value, borrowed or owned as the flag says
abbrev pub data_shown : Bool → List ℕ → List ℕ
data_shown true value = codes "Borrowed(DataSlice([" ++ bytes_in_decimal value ++ codes "]))"
data_shown false value = codes "Owned(DataOwned([" ++ bytes_in_decimal value ++ codes "]))"

-- the length and the bytes of a value; the parenthesis at the end belongs to what precedes
abbrev pub length_and_data : List ℕ → Bool → List ℕ
length_and_data value borrowed =
    codes "len: " ++ decimal (length value)
    ++ codes ", data: " ++ data_shown borrowed value ++ codes ")"

-- an attribute of a typed type whose value is refused; its last parenthesis has no partner, which
-- is kept from the Rust crate
abbrev pub malformed_text : ℕ → List ℕ → Bool → List ℕ
malformed_text type value borrowed =
    attribute_type_text type ++ codes "(Malformed): " ++ length_and_data value borrowed

-- an attribute of any other type
abbrev pub untyped_text : ℕ → List ℕ → Bool → List ℕ
untyped_text type value borrowed =
    codes "RawAttribute (type: " ++ attribute_type_debug type ++ codes ", "
    ++ length_and_data value borrowed

-- an attribute of this type and this value: as the typed attribute if there is one and it
-- accepts the value; the flag says whether the value is borrowed
abbrev pub attribute_text : ℕ → List ℕ → Bool → List ℕ
attribute_text type value borrowed =
    option_map_or (λ fault.
    option_map_or (λ e. malformed_text type value borrowed) fault (value_text type value))
    (value_fault type value) (untyped_text type value borrowed)
