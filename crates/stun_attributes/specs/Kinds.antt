-- Attributes that are a number and a name, and a value of one of a few forms.
use Rattle.std.specs.Prelude.{◌≡◌, ℕ, Bool, List, length, ◌++◌, codes, Option, Result, Ok, Err, MatchResult, None, IsOkAnd, MatchOption, ⊤}
use Rattle.std.specs.declared.net.socket_addr.SocketAddr.{SocketAddr}
use Rattle.stun_grammar.specs.declared.error.StunParseError.{StunParseError}
use Rattle.stun_grammar.specs.declared.error.StunParseError.TheVariants.{InvalidAttributeData}
use Rattle.stun_grammar.specs.Lengths.{exact_fault}
use Rattle.stun_base.specs.Data.{data_bytes, is_borrowed}
use Rattle.stun_attributes.specs.Reading.{typed_fault, Reads, ReadsInMemory}
use Rattle.stun_attributes.specs.AddressAttributes.{mapped_addr, written_addr}
use Rattle.stun_attributes.specs.declared.kinds.packed.PackedAttribute.{PackedAttribute}
use Rattle.stun_attributes.specs.declared.kinds.number.NumberAttribute.{NumberAttribute}
use Rattle.stun_attributes.specs.declared.kinds.empty.EmptyAttribute.{EmptyAttribute}
use Rattle.stun_attributes.specs.declared.kinds.bytes.BytesAttribute.{BytesAttribute}
use Rattle.stun_attributes.specs.declared.kinds.bytes.ValueBytes.{ValueBytes}
use Rattle.stun_attributes.specs.declared.kinds.address.AddressAttribute.{AddressAttribute}
use Rattle.stun_attributes.specs.declared.kinds.xored.XorAddressAttribute.{XorAddressAttribute}

-- how an attribute is printed: its name, and after it its value
abbrev pub named_text : List ℕ → List ℕ → List ℕ
named_text name value = name ++ codes ": " ++ value

-- ---- Numbers

abbrev pub number_of : {K N : Type 0} → NumberAttribute K N → N
number_of attribute = attribute.number

-- an attribute is read if what it holds is
abbrev pub ReadsHeld : {A V : Type 0} → (A → V) → (List ℕ → Result V StunParseError → Type 0)
    → List ℕ → Result A StunParseError → Type 0
ReadsHeld held_of reads_value value (Ok attribute) = reads_value value (Ok (held_of attribute))
ReadsHeld held_of reads_value value (Err e) = reads_value value (Err e)

-- ---- Fields of a number

abbrev pub fields_held : {K V : Type 0} → PackedAttribute K V → V
fields_held attribute = attribute.value

-- reading the number refuses a value; or it gives a number, and that holds the fields, or is invalid
abbrev pub ReadsFields : {K V N : Type 0} → (List ℕ → Result N StunParseError → Type 0)
    → (N → Option V) → List ℕ → Result (PackedAttribute K V) StunParseError → Type 0
ReadsFields {N = N} reads_number fields_of value result =
    (read : Result N StunParseError) × reads_number value read
    × MatchResult read
    (λ number. MatchOption (fields_of number)
    (result ≡ Err InvalidAttributeData)
    (λ fields. IsOkAnd result (λ attribute. fields_held attribute ≡ fields)))
    (λ e. result ≡ Err e)

-- ---- No bytes

abbrev pub ReadsEmpty : {K : Type 0} → List ℕ → Result (EmptyAttribute K) StunParseError → Type 0
ReadsEmpty value = Reads (exact_fault 0 (length value)) (λ _. ⊤)

-- ---- Addresses

abbrev pub addr_of : {K : Type 0} → AddressAttribute K → SocketAddr
addr_of attribute = mapped_addr attribute.addr

-- the address as it is written, after the XOR
abbrev pub xored_of : {K : Type 0} → XorAddressAttribute K → SocketAddr
xored_of attribute = written_addr attribute.addr

-- ---- Any bytes

abbrev pub bytes_of : {K : Type 0} → BytesAttribute K ValueBytes → List ℕ
bytes_of attribute = data_bytes attribute.value.bytes

-- whether they are borrowed
abbrev pub bytes_are_borrowed : {K : Type 0} → BytesAttribute K ValueBytes → Bool
bytes_are_borrowed attribute = is_borrowed attribute.value.bytes

abbrev pub ReadsBytes : {K : Type 0} → ℕ
    → ℕ → List ℕ → Result (BytesAttribute K ValueBytes) StunParseError → Type 0
ReadsBytes wanted type value =
    Reads (typed_fault wanted (λ _. None) type value) (λ read. bytes_of read ≡ value)

-- the same, unless out of memory
abbrev pub ReadsBytesInMemory : {K : Type 0} → ℕ
    → ℕ → List ℕ → Result (BytesAttribute K ValueBytes) StunParseError → Type 0
ReadsBytesInMemory wanted type value =
    ReadsInMemory (typed_fault wanted (λ _. None) type value) (λ read. bytes_of read ≡ value)
