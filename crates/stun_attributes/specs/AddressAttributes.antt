-- The addresses in attributes.
use Rattle.std.specs.Prelude.{ℕ, List, Result}
use Rattle.std.specs.declared.net.socket_addr.SocketAddr.{SocketAddr}
use Rattle.stun_grammar.specs.declared.error.StunParseError.{StunParseError}
use Rattle.stun_attributes.specs.Reading.{Reads}
use Rattle.stun_values.specs.Addresses.{address_fault, Spells}
use Rattle.stun_attributes.specs.declared.mapped.MappedSocketAddr.{MappedSocketAddr}
use Rattle.stun_attributes.specs.declared.xored.XorSocketAddr.{XorSocketAddr}

abbrev pub mapped_addr : MappedSocketAddr → SocketAddr
mapped_addr mapped = mapped.addr

-- the address as it is written, after the XOR
abbrev pub written_addr : XorSocketAddr → SocketAddr
written_addr xored = mapped_addr xored.addr

-- ---- What reading answers

-- the value of an attribute that is an address
abbrev pub ReadsAddress :
    {T : Type 0} → (T → SocketAddr) → List ℕ → Result T StunParseError → Type 0
ReadsAddress addr_of value = Reads (address_fault value) (λ read. Spells value (addr_of read))
