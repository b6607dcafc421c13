-- The names of transports, and the families of addresses.
use Rattle.std.specs.Prelude.{◌≡◌, ◌≢◌, List, ℕ, map, codes, Result, Ok, Err}
use Rattle.std.specs.Char.{to_ascii_lowercase}
use Rattle.std.specs.declared.net.ip_addr.IpAddr.{IpAddr}
use Rattle.std.specs.declared.net.ip_addr.IpAddr.TheVariants.{V4, V6}
use Rattle.stun_base.specs.declared.transport.TransportType.{TransportType}
use Rattle.stun_base.specs.declared.transport.TransportType.TheVariants.{Udp, Tcp}
use Rattle.stun_base.specs.declared.transport.ParseTransportTypeError.{ParseTransportTypeError}
use Rattle.stun_base.specs.declared.transport.ParseTransportTypeError.TheVariants.{UnknownTransport}
use Rattle.stun_base.specs.declared.transport.AddressFamily.{AddressFamily}
use Rattle.stun_base.specs.declared.transport.AddressFamily.TheVariants.{IPV4, IPV6}

-- a text with its ASCII letters in lowercase
abbrev pub lowercase : List ℕ → List ℕ
lowercase = map to_ascii_lowercase

-- the transport of a name, in any case of its letters
pub record NamesTransport (text : List ℕ)
    (result : Result TransportType ParseTransportTypeError) : Type 0 where
  pub udp : lowercase text ≡ codes "udp" → result ≡ Ok Udp
  pub tcp : lowercase text ≡ codes "tcp" → result ≡ Ok Tcp
  pub other : lowercase text ≢ codes "udp" → lowercase text ≢ codes "tcp"
      → result ≡ Err UnknownTransport

-- the name of a transport, as it is printed
abbrev pub transport_name : TransportType → List ℕ
transport_name Udp = codes "UDP"
transport_name Tcp = codes "TCP"

-- the name of a family, as it is printed
abbrev pub family_name : AddressFamily → List ℕ
family_name IPV4 = codes "IPV4"
family_name IPV6 = codes "IPV6"

-- the family of an address
abbrev pub family_of : IpAddr → AddressFamily
family_of (V4 ip) = IPV4
family_of (V6 ip) = IPV6
