-- The IP header of a UDP datagram that relays data, by what is known of the packet that brought the data (RFC
-- 8656, sections 13 to 15): for each field the preferred behaviour, and the alternate one if that packet's field
-- isn't known. A field that is None in the result has the system's default for outgoing packets.
use Rattle.std.specs.Prelude.{ℕ, ◌+◌, ◌-◌, nat_le, nat_lt, Bool, false, ◌&&◌, ◌||◌, Option, None, Some, unwrap_or, if◌then◌else◌}
use Rattle.std.specs.Option.{option_map}
use Rattle.stun_base.specs.declared.transport.TransportType.{TransportType}
use Rattle.stun_base.specs.declared.transport.TransportType.TheVariants.{Udp, Tcp}
use Rattle.turn_server.specs.declared.header_fields.IpVersion.{IpVersion}
use Rattle.turn_server.specs.declared.header_fields.IpVersion.TheVariants.{Ipv4, Ipv6}
use Rattle.turn_server.specs.declared.header_fields.RelayedData.{RelayedData}
use Rattle.turn_server.specs.declared.header_fields.ReceivedFields.{ReceivedFields}
use Rattle.turn_server.specs.declared.header_fields.SentFields.{SentFields}

-- a router decrements the hop limit, and forwards nothing once it is zero (13.2; RFC 7915, 4.1 and 5.1)
abbrev pub routed : Option ℕ → Option (Option ℕ)
routed None = Some None
routed (Some hops) = if nat_le hops 1 then None else Some (Some (hops - 1))

-- Hop Limit, or TTL: 13.1, 13.2 and 13.3; sections 14 and 15 name none
abbrev pub hop_limit_for : (over : TransportType) → (from to : IpVersion) → Option ℕ → Option (Option ℕ)
hop_limit_for Udp Ipv4 Ipv6 hops = routed hops
hop_limit_for Udp Ipv6 Ipv6 hops = routed hops
hop_limit_for Udp Ipv6 Ipv4 hops = routed hops
hop_limit_for Udp Ipv4 Ipv4 hops = Some None
hop_limit_for Tcp from to hops = Some None

-- DSCP: the incoming value (14), or that of the TCP connection (15); else Best Effort
abbrev pub dscp_for : Option ℕ → ℕ
dscp_for dscp = unwrap_or dscp 0

-- ECN: the incoming value, else Not-ECT (14); Not-ECT if the data came over TCP (15)
abbrev pub ecn_for : (over : TransportType) → Option ℕ → ℕ
ecn_for Udp ecn = unwrap_or ecn 0
ecn_for Tcp ecn = 0

-- the length of an IPv4 packet with n bytes in a UDP datagram
abbrev pub ipv4_length : ℕ → ℕ
ipv4_length n = 20 + 8 + n

-- Whether the datagram isn't to be fragmented: `asked` says that a Send indication had DONT-FRAGMENT, `whole`
-- that the packet that came had the DF bit, or over IPv6 no Fragment header. From IPv4 to IPv4 (14):
abbrev pub df_within_ipv4 : (asked : Bool) → (whole : Option Bool) → Bool
df_within_ipv4 asked whole = asked || unwrap_or whole false

-- from IPv6 to IPv4 (13.3; RFC 7915, 5.1), where a packet of at most 1260 bytes may be fragmented:
abbrev pub df_to_ipv4 : (n : ℕ) → (whole : Option Bool) → Option Bool
df_to_ipv4 n whole = option_map (λ is_whole. is_whole && nat_lt 1260 (ipv4_length n)) whole

-- to IPv6 (13.1 and 13.2; RFC 7915, 4), and all of these; DONT-FRAGMENT alone counts for TCP (13 and 15)
abbrev pub dont_fragment_for : (over : TransportType) → (from to : IpVersion) → (asked : Bool) → (n : ℕ)
    → (whole : Option Bool) → Option Bool
dont_fragment_for Udp Ipv4 Ipv4 asked n whole = Some (df_within_ipv4 asked whole)
dont_fragment_for Udp Ipv4 Ipv6 asked n whole = whole
dont_fragment_for Udp Ipv6 Ipv6 asked n whole = whole
dont_fragment_for Udp Ipv6 Ipv4 asked n whole = df_to_ipv4 n whole
dont_fragment_for Tcp from to asked n whole = Some asked

-- the header's fields; None if nothing is sent
abbrev pub fields_for : RelayedData → ReceivedFields → Option SentFields
fields_for r came = option_map (λ hop_limit. record {
  hop_limit = hop_limit;
  dscp = dscp_for came.dscp;
  ecn = ecn_for r.over came.ecn;
  dont_fragment = dont_fragment_for r.over r.from r.to r.dont_fragment r.length came.dont_fragment;
}) (hop_limit_for r.over r.from r.to came.hop_limit)
