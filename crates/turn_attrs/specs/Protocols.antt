-- Protocols by the first byte of a packet (RFC 7983, section 7, and RFC 9443, section 3).
use Rattle.std.specs.Prelude.{ℕ, Option, Some, None, nat_lt, nat_le, if◌then◌else◌}
use Rattle.stun_framing.specs.declared.channel_range.ChannelRange.{ChannelRange}
use Rattle.stun_framing.specs.declared.channel_range.ChannelRange.TheVariants.{Rfc8656}
use Rattle.turn_attrs.specs.declared.protocols.Protocol.{Protocol}
use Rattle.turn_attrs.specs.declared.protocols.Protocol.TheVariants.{Stun, Zrtp, Dtls, TurnChannel, Quic, Rtp}
use Rattle.stun_framing.specs.Channels.{greatest_first}

-- on a port where channels have the numbers of a range
abbrev pub protocol_in : ChannelRange → ℕ → Option Protocol
protocol_in range first =
    if nat_lt first 4 then Some Stun else (
    if nat_lt first 16 then None else (
    if nat_lt first 20 then Some Zrtp else (
    if nat_lt first 64 then Some Dtls else (
    if nat_le first (greatest_first range) then Some TurnChannel else (
    if nat_lt first 128 then Some Quic else (
    if nat_lt first 192 then Some Rtp else Some Quic))))))

abbrev pub protocol : ℕ → Option Protocol
protocol = protocol_in Rfc8656
