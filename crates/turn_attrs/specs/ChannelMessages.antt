-- ChannelData messages (RFC 8656, sections 12.4 to 12.6).
use Rattle.std.specs.Prelude.{◌≡◌, ℕ, ◌+◌, ◌-◌, List, ◌++◌, length, take, drop, replicate, Option, Some, None, nat_lt, if◌then◌else◌}
use Rattle.std.specs.Option.{option_or}
use Rattle.stun_grammar.specs.Numbers.{be16, padded_length}
use Rattle.turn_attrs.specs.declared.channel_data.ChannelData.{ChannelData}
use Rattle.turn_attrs.specs.declared.channel_data.ChannelDataError.{ChannelDataError}
use Rattle.turn_attrs.specs.declared.channel_data.ChannelDataError.TheVariants.{Truncated, TooLarge}
use Rattle.stun_framing.specs.declared.channel_range.ChannelRange.{ChannelRange}
use Rattle.stun_framing.specs.declared.channel_range.ChannelRange.TheVariants.{Rfc8656}
use Rattle.turn_attrs.specs.Channels.{begin_fault_in, channel_field, data_length}

abbrev pub data_of : ChannelData → List ℕ
data_of message = message.bytes.now

-- the message is of this channel and this data
pub record IsData (channel : ℕ) (bytes : List ℕ) (message : ChannelData) : Type 0 where
  pub channel_is : message.channel ≡ channel
  pub data_is : data_of message ≡ bytes

-- a channel's number, the length of the data, and the data
abbrev pub channel_message : ℕ → List ℕ → List ℕ
channel_message channel bytes = be16 channel ++ (be16 (length bytes) ++ bytes)

-- the message as it is written, and with the padding that it has on a stream
abbrev pub message_bytes : ChannelData → List ℕ
message_bytes message = channel_message message.channel (data_of message)

abbrev pub padded_bytes : ChannelData → List ℕ
padded_bytes message =
    let n = 4 + length (data_of message) in
    message_bytes message ++ replicate (padded_length n - n) 0

-- the data after a channel and its length, and the data of the message that begins the bytes, whatever
-- follows it: None if it is cut off
abbrev pub data_field : List ℕ → List ℕ
data_field b = take (data_length b) (drop 4 b)

abbrev pub data_in : List ℕ → Option (List ℕ)
data_in b = if nat_lt (length b) (4 + data_length b) then None else Some (data_field b)

-- why no message begins the bytes: none can, or the data is cut off
abbrev pub prefix_fault_in : ChannelRange → List ℕ → Option ChannelDataError
prefix_fault_in range b =
    let n = 4 + data_length b in
    option_or (begin_fault_in range b)
    (if nat_lt (length b) n then Some (Truncated n (length b)) else None)

abbrev pub prefix_fault : List ℕ → Option ChannelDataError
prefix_fault = prefix_fault_in Rfc8656

-- why a datagram is no ChannelData message: it begins with none, or more follows than a padding has
abbrev pub channel_fault_in : ChannelRange → List ℕ → Option ChannelDataError
channel_fault_in range b =
    let n = padded_length (4 + data_length b) in
    option_or (prefix_fault_in range b)
    (if nat_lt n (length b) then Some (TooLarge n (length b)) else None)

abbrev pub channel_fault : List ℕ → Option ChannelDataError
channel_fault = channel_fault_in Rfc8656

-- the message that begins the bytes, which have no fault
abbrev pub IsIn : List ℕ → ChannelData → Type 0
IsIn b = IsData (channel_field b) (data_field b)
