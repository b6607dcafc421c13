-- What a raw attribute holds, and what reading one from bytes returns.
use Rattle.std.specs.Prelude.{◌≡◌, ℕ, ◌+◌, ◌-◌, true, List, length, drop, Option, Some, None, nat_lt, if◌then◌else◌}
use Rattle.stun_grammar.specs.declared.error.StunParseError.{StunParseError}
use Rattle.stun_grammar.specs.declared.error.StunParseError.TheVariants.{Truncated}
use Rattle.stun_grammar.specs.Attributes.{Attribute, encoding}
use Rattle.stun_grammar.specs.Chains.{first_attribute, stated_length}
use Rattle.stun_base.specs.declared.data.Data.{Data}
use Rattle.stun_base.specs.Data.{data_bytes, is_borrowed}
use Rattle.stun_attributes.specs.declared.wire.raw.RawAttribute.{RawAttribute}

-- the type
abbrev pub raw_type : RawAttribute → ℕ
raw_type raw = raw.header.atype.0

-- the value, borrowed or owned
abbrev pub raw_data : RawAttribute → Data
raw_data raw = raw.value

-- the bytes of the value
abbrev pub raw_value : RawAttribute → List ℕ
raw_value raw = data_bytes (raw_data raw)

-- a raw attribute of this type and value
pub record IsRawOf (type : ℕ) (value : List ℕ) (raw : RawAttribute) : Type 0 where
  pub type_is : raw_type raw ≡ type
  pub value_is : raw_value raw ≡ value

-- the same, with a value that is borrowed
pub record Borrows (type : ℕ) (value : List ℕ) (raw : RawAttribute) : Type 0 where
  pub raw_is : IsRawOf type value raw
  pub borrowed : is_borrowed (raw_data raw) ≡ true

-- why bytes do not begin with the header and the value of an attribute; its padding may be missing
unfoldable pub raw_fault : List ℕ → Option StunParseError
raw_fault d =
    let n = stated_length d in
    if nat_lt (length d) 4 then Some (Truncated 4 (length d)) else (
    if nat_lt (length d) (4 + n) then Some (Truncated n (length d - 4)) else None)

-- raw is the attribute whose header is at an offset of d, with a borrowed value, and what follows
-- the attribute begins at after
pub record Finds (raw : RawAttribute) (behind offset : ℕ) (d : List ℕ) : Type 0 where
  pub attribute : Attribute
  pub first_is : first_attribute (drop offset d) ≡ Some attribute
  pub raw_is : Borrows attribute.type attribute.value raw
  pub behind_is : behind ≡ offset + length (encoding attribute)
