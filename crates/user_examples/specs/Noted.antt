-- An attribute that borrows its value from a message.
use Rattle.std.specs.Prelude.{◌≡◌, ℕ, ◌+◌, true, List, length, slice_range}
use Rattle.stun_grammar.specs.Chains.{Shown}
use Rattle.stun_attributes.specs.declared.kinds.bytes.BytesAttribute.{BytesAttribute}
use Rattle.stun_attributes.specs.declared.kinds.bytes.ValueBytes.{ValueBytes}
use Rattle.stun_attributes.specs.Kinds.{bytes_of, bytes_are_borrowed}

-- the number of its type
abbrev pub NOTE : ℕ
NOTE = 0x8853

-- it borrows the part of the message that is the value of an attribute shown: what follows the four
-- bytes of its header
pub record IsPart {K : Type 0} (d : List ℕ) (a : Shown) (note : BytesAttribute K ValueBytes) : Type 0 where
  pub borrowed : bytes_are_borrowed note ≡ true
  pub bytes : bytes_of note ≡ slice_range d (a.offset + 4) (a.offset + 4 + length a.value)
