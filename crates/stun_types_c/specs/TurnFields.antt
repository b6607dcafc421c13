-- The IP header of a datagram that relays data, in C's form (RFC 8656, sections 13 to 15).
use Rattle.std.specs.Prelude.{◌≡◌, ℕ, Bool, true, false, not, nat_le, Option, None, Some, MatchOption, option_and_then, ◌==◌, if◌then◌else◌}
use Rattle.std.specs.Option.{option_map}
use Rattle.stun_base.specs.declared.transport.TransportType.{TransportType}
use Rattle.stun_base.specs.declared.transport.TransportType.TheVariants.{Udp, Tcp}
use Rattle.turn_server.specs.declared.header_fields.IpVersion.{IpVersion}
use Rattle.turn_server.specs.declared.header_fields.IpVersion.TheVariants.{Ipv4, Ipv6}
use Rattle.turn_server.specs.declared.header_fields.RelayedData.{RelayedData}
use Rattle.turn_server.specs.declared.header_fields.ReceivedFields.{ReceivedFields}
use Rattle.turn_server.specs.declared.header_fields.SentFields.{SentFields}
use Rattle.turn_server.specs.HeaderFields.{fields_for}
use Rattle.stun_types_c.specs.declared.call_result.CResult.{CResult}
use Rattle.stun_types_c.specs.declared.turn_fields.CIpFields.{CIpFields}
use Rattle.stun_types_c.specs.declared.turn_fields.CRelayed.{CRelayed}
use Rattle.stun_types_c.specs.declared.turn_fields.CSentFields.{CSentFields}
use Rattle.stun_types_c.specs.Codes.{OK, BAD_ARGUMENT}
use Rattle.stun_types_c.specs.CResults.{plain}

-- ---- What C passes

-- a field that isn't known, or that has the system's default
abbrev pub unset : ℕ
unset = 0xFFFF

-- UDP, or TCP for a stream
abbrev pub transport_type_named : ℕ → Option TransportType
transport_type_named stream = if stream == 0 then Some Udp else (if stream == 1 then Some Tcp else None)

abbrev pub version_named : (family : ℕ) → Option IpVersion
version_named family = if family == 4 then Some Ipv4 else (if family == 6 then Some Ipv6 else None)

-- a number that is at most this one
abbrev pub number_named : (most field : ℕ) → Option (Option ℕ)
number_named most field =
    if field == unset then Some None else (if nat_le field most then Some (Some field) else None)

abbrev pub bit_named : (field : ℕ) → Option (Option Bool)
bit_named field =
    if field == 0 then Some (Some false) else (
    if field == 1 then Some (Some true) else (if field == unset then Some None else None))

-- what is known of a packet: eight bits, six, two and one
abbrev pub received_named : CIpFields → Option ReceivedFields
received_named named =
    option_and_then (λ hop_limit. option_and_then (λ dscp. option_and_then (λ ecn. option_map (λ bit.
    record { hop_limit = hop_limit; dscp = dscp; ecn = ecn; dont_fragment = bit })
    (bit_named named.dont_fragment)) (number_named 3 named.ecn)) (number_named 63 named.dscp))
    (number_named 255 named.hop_limit)

abbrev pub relayed_named : CRelayed → Option RelayedData
relayed_named named =
    option_and_then (λ over. option_and_then (λ from. option_map (λ to. record {
      over = over;
      from = from;
      to = to;
      dont_fragment = not (named.dont_fragment == 0);
      length = named.length;
    }) (version_named named.to)) (version_named named.from)) (transport_type_named named.stream)

-- ---- What C sets

abbrev pub unsent : CSentFields
unsent = record {
  fields = record { hop_limit = 0; dscp = 0; ecn = 0; dont_fragment = 0 };
  sends = 0;
}

abbrev pub number_in_c : Option ℕ → ℕ
number_in_c None = unset
number_in_c (Some field) = field

abbrev pub bit_in_c : Option Bool → ℕ
bit_in_c None = unset
bit_in_c (Some bit) = if bit then 1 else 0

-- the fields, or that nothing is sent
abbrev pub fields_in_c : Option SentFields → CSentFields
fields_in_c None = unsent
fields_in_c (Some sent) = record {
  fields = record {
    hop_limit = number_in_c sent.hop_limit;
    dscp = sent.dscp;
    ecn = sent.ecn;
    dont_fragment = bit_in_c sent.dont_fragment;
  };
  sends = 1;
}

-- the fields that sections 13 to 15 say
abbrev pub Sets : CRelayed → CResult → CSentFields → Type 0
Sets named result out =
    MatchOption (received_named named.received) ((result ≡ plain BAD_ARGUMENT) × (out ≡ unsent))
    (λ received. MatchOption (relayed_named named) ((result ≡ plain BAD_ARGUMENT) × (out ≡ unsent))
    (λ relayed. (result ≡ plain OK) × (out ≡ fields_in_c (fields_for relayed received))))
