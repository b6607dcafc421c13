-- The headers of a packet as bytes, and those with which it leaves (RFC 8656, sections 12.6, 12.7 and 14).
use Rattle.std.specs.Prelude.{ℕ, ◌+◌, ◌-◌, ◌*◌, ◌/◌, ◌%◌, ◌^◌, List, ◌∷◌, ◌++◌, Bool, ◌==◌, if◌then◌else◌, min}
use Rattle.stun_grammar.specs.Numbers.{be16, be32}
use Rattle.kernel_rules.specs.declared.ip.Ipv4.{Ipv4}
use Rattle.kernel_rules.specs.declared.ip.Ipv6.{Ipv6}

-- IPv4 without options (RFC 791, section 3.1)
abbrev pub ipv4_bytes : Ipv4 → List ℕ
ipv4_bytes h =
    h.version ∷ h.service ∷ be16 h.length ++ be16 h.identification ++ be16 h.fragment ++ h.hops ∷ h.protocol ∷
    be16 h.checksum ++ be32 h.source ++ be32 h.destination

-- the length of what leaves: to a peer the four bytes of ChannelData are taken off, to a client they are put in front
abbrev pub outgoing : (to_peer : Bool) → ℕ → ℕ
outgoing to_peer length = if to_peer then length - 4 else min (length + 4) 65535

-- a packet that may be fragmented, as its flag DF is not set, gets a new identification (RFC 791, RFC 6864)
abbrev pub outgoing_identification : (fragment new : ℕ) → ℕ
outgoing_identification fragment new = if fragment / 2 ^ 14 % 2 == 0 then new else 0

abbrev pub outgoing_ipv4 : (to_peer : Bool) (identification source destination checksum : ℕ) → Ipv4 → Ipv4
outgoing_ipv4 to_peer identification source destination checksum h = record h {
  length = outgoing to_peer h.length;
  identification = outgoing_identification h.fragment identification;
  hops = h.hops - 1;
  checksum = checksum;
  source = source;
  destination = destination;
}

-- version and traffic class stay
abbrev pub outgoing_ipv6 : (to_peer : Bool) → Ipv6 → Ipv6
outgoing_ipv6 to_peer h = record h {
  start = h.start / 2 ^ 20 * 2 ^ 20;
  length = outgoing to_peer h.length;
  hops = h.hops - 1;
}
