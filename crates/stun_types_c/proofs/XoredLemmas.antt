-- An address is added, as it is and XORed with the transaction ID.
use Rattle.std.proofs.Common.{◌≡◌, ℕ, false, length, Option, Some, None, MatchOption, sym}
use Rattle.std.specs.declared.net.ip_addr.IpAddr.{IpAddr}
use Rattle.std.specs.declared.net.socket_addr.SocketAddr.{SocketAddr}
use Rattle.std.specs.Prelude.{IsSomeAnd}
use Rattle.stun_grammar.specs.Headers.{header_fault, id_field}
use Rattle.stun_values.specs.Addresses.{address_value, IsXored}
use Rattle.stun_types_c.specs.declared.call_result.CResult.{CResult}
use Rattle.stun_types_c.specs.declared.address.Address.{Address}
use Rattle.stun_types_c.specs.Addresses.{ip_named, IsAt, Names, is_xored_type, is_plain_type}
use Rattle.stun_types_c.specs.CResults.{plain, Refuses}
use Rattle.stun_types_c.specs.Codes.{BAD_ARGUMENT}
use Rattle.stun_types_c.specs.Writing.{Written, AppendsTo, AddsAddress, AddsXorAddress, any_answer}

pub plain_added : (address : Address) (a : SocketAddr) (type : ℕ) (result : CResult) (old new : Written) → is_xored_type type ≡ false → Names address (Some a)
    → AppendsTo (any_answer (length old.slice) type (address_value a)) type (λ _. address_value a) result old new → AddsAddress address type result old new
plain_added address a type result old new other named adds = rw other (go (ip_named address) named)
  where
    Adds : IpAddr → Type 0
    Adds ip = (b : SocketAddr) × IsAt ip address.port b × AppendsTo (any_answer (length old.slice) type (address_value b)) type (λ _. address_value b) result old new

    go : (o : Option IpAddr) → MatchOption o (◌≡◌ {A = Option SocketAddr} (Some a) None) (λ ip. IsSomeAnd (Some a) (IsAt ip address.port))
        → MatchOption o (Refuses (plain BAD_ARGUMENT) result old new) Adds
    go None n = cc n
    go (Some ip) n = (a, n, adds)

pub xored_added : (address : Address) (a xored : SocketAddr) (type id : ℕ) (result : CResult) (old new : Written) → is_plain_type type ≡ false → Names address (Some a) → header_fault old.slice ≡ None → id ≡ id_field old.slice → IsXored id a xored
    → AppendsTo (any_answer (length old.slice) type (address_value xored)) type (λ _. address_value xored) result old new → AddsXorAddress address type result old new
xored_added address a xored type id result old new other named there its is adds = rw other (go (ip_named address) named)
  where
    Adds : IpAddr → Type 0
    Adds ip = (b other : SocketAddr) × IsAt ip address.port b × IsXored (id_field old.slice) b other × AppendsTo (any_answer (length old.slice) type (address_value other)) type (λ _. address_value other) result old new

    go : (o : Option IpAddr) → MatchOption o (◌≡◌ {A = Option SocketAddr} (Some a) None) (λ ip. IsSomeAnd (Some a) (IsAt ip address.port))
        → MatchOption o (Refuses (plain BAD_ARGUMENT) result old new) (λ ip. MatchOption (header_fault old.slice) (Adds ip) (λ _. Refuses (plain BAD_ARGUMENT) result old new))
    go None n = cc n
    go (Some ip) n = rw there (a, xored, n, rw (sym its) is, adds)
