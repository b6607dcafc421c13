-- Datagrams of UDP (RFC 768), and what their checksum covers over IPv4 and over IPv6 (RFC 8200, section 8.1).
use Rattle.std.specs.Prelude.{ℕ, List, [], ◌∷◌, ◌++◌, Bool}
use Rattle.stun_grammar.specs.Numbers.{be16, be32}
use Rattle.kernel_rules.specs.declared.udp.Udp.{Udp}
use Rattle.kernel_rules.specs.declared.udp.Ipv4Ends.{Ipv4Ends}
use Rattle.kernel_rules.specs.declared.udp.Ipv6Address.{Ipv6Address}
use Rattle.kernel_rules.specs.declared.udp.Ipv6Ends.{Ipv6Ends}
use Rattle.kernel_rules.specs.Headers.{outgoing}

abbrev pub udp_bytes : Udp → List ℕ
udp_bytes h = be16 h.source ++ be16 h.destination ++ be16 h.length ++ be16 h.checksum

abbrev pub ipv4_ends : Ipv4Ends → List ℕ
ipv4_ends ends = be32 ends.source ++ be32 ends.destination

abbrev pub ipv6_bytes : Ipv6Address → List ℕ
ipv6_bytes a = be32 a.first ++ be32 a.second ++ be32 a.third ++ be32 a.fourth

abbrev pub ipv6_ends : Ipv6Ends → List ℕ
ipv6_ends ends = ipv6_bytes ends.source ++ ipv6_bytes ends.destination

-- what is in front of a datagram for its checksum alone: the addresses, the protocol, 17, and the length
abbrev pub pseudo_ipv4 : Ipv4Ends → ℕ → List ℕ
pseudo_ipv4 ends length = ipv4_ends ends ++ 0 ∷ 17 ∷ be16 length

abbrev pub pseudo_ipv6 : Ipv6Ends → ℕ → List ℕ
pseudo_ipv6 ends length = ipv6_ends ends ++ be32 length ++ 0 ∷ 0 ∷ 0 ∷ 17 ∷ []

-- what the checksum covers
abbrev pub summed_ipv4 : Ipv4Ends → Udp → (bytes : List ℕ) → List ℕ
summed_ipv4 ends h bytes = pseudo_ipv4 ends h.length ++ udp_bytes h ++ bytes

abbrev pub summed_ipv6 : Ipv6Ends → Udp → (bytes : List ℕ) → List ℕ
summed_ipv6 ends h bytes = pseudo_ipv6 ends h.length ++ udp_bytes h ++ bytes

-- the header with which a datagram leaves
abbrev pub outgoing_udp : (to_peer : Bool) (source destination checksum : ℕ) → Udp → Udp
outgoing_udp to_peer source destination checksum h = record {
  source = source;
  destination = destination;
  length = outgoing to_peer h.length;
  checksum = checksum;
}
