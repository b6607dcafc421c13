-- An attribute, and its encoding (RFC 8489, section 14).
use Rattle.std.specs.Prelude.{◌≡◌, ℕ, ◌+◌, ◌-◌, ◌^◌, ◌<◌, List, ◌++◌, length, map, replicate}
use Rattle.std.specs.List.{flat_map}
use Rattle.stun_grammar.specs.Numbers.{be16, padded_length}

-- an attribute in a message: its type, its value, and the padding that follows the value
pub record Attribute : Type 0 where
  pub type : ℕ
  pub value : List ℕ
  pub padding : List ℕ

-- type and length of the value fit in two bytes each, and the padding fills the value up to a
-- multiple of 4; its bytes may be any
pub record IsAttribute (a : Attribute) : Type 0 where
  pub type : a.type < 2 ^ 16
  pub value : length a.value < 2 ^ 16
  pub padding : length a.value + length a.padding ≡ padded_length (length a.value)

-- type, length of the value, value, padding
unfoldable pub encoding : Attribute → List ℕ
encoding a = be16 a.type ++ (be16 (length a.value) ++ (a.value ++ a.padding))

-- the encodings, one after the other
abbrev pub encodings : List Attribute → List ℕ
encodings attributes = flat_map encoding attributes

-- an attribute as it is written: its padding is zeros
abbrev pub canonical : ℕ → List ℕ → Attribute
canonical type value = record {
  type = type;
  value = value;
  padding = replicate (padded_length (length value) - length value) 0;
}

-- the types of attributes, in their order
abbrev pub types : List Attribute → List ℕ
types = map (λ a. a.type)

-- ---- An attribute as it is written (RFC 8489, section 14)

-- an attribute's header: the type, and the length n of the value, in two bytes each
abbrev pub header_encoding : ℕ → ℕ → List ℕ
header_encoding type n = be16 type ++ be16 n

-- header, value, and zeros up to a multiple of 4
abbrev pub attribute_encoding : ℕ → List ℕ → List ℕ
attribute_encoding type value = encoding (canonical type value)

-- how many bytes an attribute takes whose value has n bytes: header, value and padding
abbrev pub attribute_length : ℕ → ℕ
attribute_length n = 4 + padded_length n
