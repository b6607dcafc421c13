-- Protocols and ChannelData as C sees them (RFC 7983, section 7, and RFC 8656, section 12.4).
use Rattle.std.specs.Prelude.{◌≡◌, ℕ, ◌+◌, ◌-◌, Bool, List, ◌++◌, length, drop, replicate, Option, None, Some, MatchOption, nat_lt, if◌then◌else◌}
use Rattle.stun_grammar.specs.Numbers.{be16, padded_length}
use Rattle.turn_attrs.specs.declared.protocols.Protocol.{Protocol}
use Rattle.turn_attrs.specs.declared.protocols.Protocol.TheVariants.{Stun, Zrtp, Dtls, TurnChannel, Quic, Rtp}
use Rattle.turn_attrs.specs.declared.channel_data.ChannelDataError.{ChannelDataError}
use Rattle.turn_attrs.specs.declared.channel_data.ChannelDataError.TheVariants.{NotChannelData, Truncated, TooLarge}
use Rattle.stun_framing.specs.declared.channel_range.ChannelRange.TheVariants.{Rfc8656}
use Rattle.turn_attrs.specs.Channels.{begin_fault, channel_field, data_length, is_channel_in}
use Rattle.turn_attrs.specs.ChannelMessages.{channel_fault}
use Rattle.stun_types_c.specs.declared.call_result.CResult.{CResult}
use Rattle.stun_types_c.specs.declared.channels.CChannelMessage.{CChannelMessage}
use Rattle.stun_types_c.specs.Codes.{OK, NOT_STUN, TRUNCATED, TOO_LARGE, TOO_SMALL, OUT_OF_RANGE}
use Rattle.stun_types_c.specs.CResults.{plain, counted, Refuses}
use Rattle.stun_types_c.specs.Writing.{Written}

-- the number of a protocol, and 0 for none
abbrev pub protocol_number : Option Protocol → ℕ
protocol_number None = 0
protocol_number (Some Stun) = 1
protocol_number (Some Zrtp) = 2
protocol_number (Some Dtls) = 3
protocol_number (Some TurnChannel) = 4
protocol_number (Some Rtp) = 5
protocol_number (Some Quic) = 6

-- why bytes are no ChannelData message
abbrev pub channel_answer : ChannelDataError → CResult
channel_answer NotChannelData = plain NOT_STUN
channel_answer (Truncated expected actual) = counted TRUNCATED expected actual
channel_answer (TooLarge expected actual) = counted TOO_LARGE expected actual

-- why no channel and length begin the bytes: none can, or there are too few to decide
abbrev pub Partly : ChannelDataError → CResult → (old new : ℕ) → Type 0
Partly NotChannelData result old new = (result ≡ plain NOT_STUN) × (new ≡ old)
Partly _ result old new = (result ≡ plain OK) × (new ≡ 0)

-- how many bytes the message has on a stream that begins with these; 0 if there are too few, and
-- it may begin so
abbrev pub FramesChannel : List ℕ → CResult → (old new : ℕ) → Type 0
FramesChannel b result old new =
    MatchOption (begin_fault b)
    ((result ≡ plain OK) × (new ≡ padded_length (4 + data_length b)))
    (λ e. Partly e result old new)

-- what reading a message answers
abbrev pub ReadsChannel : List ℕ → CResult → CChannelMessage → CChannelMessage → Type 0
ReadsChannel b result old new =
    MatchOption (channel_fault b)
    ((result ≡ plain OK)
    × (new ≡ record { data_at = 4; channel = channel_field b; length = data_length b }))
    (λ e. (result ≡ channel_answer e) × (new ≡ old))

-- a message: the number of its channel and the length of its data, in two bytes each, its data, and
-- if it is padded, as on a stream, zeros up to a multiple of 4
abbrev pub channel_message : (padded : Bool) → (channel : ℕ) → (sent : List ℕ) → List ℕ
channel_message padded channel sent =
    let message = be16 channel ++ (be16 (length sent) ++ sent) in
    let n = 4 + length sent in
    if padded then message ++ replicate (padded_length n - n) 0 else message

-- why no message is written: no channel has the number, its length field can't state how long the
-- data is, or the slice has no room
abbrev pub channel_refusal : (padded : Bool) → (channel : ℕ) → (sent slice : List ℕ)
    → Option CResult
channel_refusal padded channel sent slice =
    let n = length (channel_message padded channel sent) in
    if is_channel_in Rfc8656 channel then (
    if nat_lt 65535 (length sent) then Some (counted TOO_LARGE 65535 (length sent)) else (
    if nat_lt (length slice) n then Some (counted TOO_SMALL n (length slice)) else None))
    else Some (counted OUT_OF_RANGE 0x4FFF channel)

-- a message is written at the start of a slice, or it is refused; what follows it stays
abbrev pub WritesChannel : (padded : Bool) → (channel : ℕ) → (sent : List ℕ) → CResult
    → Written → Written → Type 0
WritesChannel padded channel sent result old new =
    let message = channel_message padded channel sent in
    MatchOption (channel_refusal padded channel sent old.slice)
    ((result ≡ plain OK) × (new ≡ record {
      slice = message ++ drop (length message) old.slice;
      count = length message;
    }))
    (λ answer. Refuses answer result old new)
