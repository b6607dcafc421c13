-- Channels (RFC 8656, sections 12 and 18.1), and how a ChannelData message begins (section 12.4).
use Rattle.std.specs.Prelude.{ℕ, ◌+◌, ◌*◌, ◌/◌, ◌^◌, Bool, false, ◌&&◌, List, ◌++◌, codes, length, take, slice_index, slice_range, Option, Some, None, nat_lt, nat_le, if◌then◌else◌}
use Rattle.std.specs.Fmt.{digits}
use Rattle.std.specs.List.{list_all}
use Rattle.stun_grammar.specs.Numbers.{number}
use Rattle.stun_framing.specs.declared.channel_range.ChannelRange.{ChannelRange}
use Rattle.stun_framing.specs.declared.channel_range.ChannelRange.TheVariants.{Rfc8656, Rfc5766}
use Rattle.stun_framing.specs.Channels.{greatest_channel, begins_number}
use Rattle.turn_attrs.specs.declared.channel_data.ChannelDataError.{ChannelDataError}
use Rattle.turn_attrs.specs.declared.channel_data.ChannelDataError.TheVariants.{NotChannelData, Truncated}

-- whether a channel may have this number
abbrev pub is_channel_in : ChannelRange → ℕ → Bool
is_channel_in range n = nat_le 0x4000 n && nat_le n (greatest_channel range)

abbrev pub channel_of_range : ChannelRange → ℕ → Option ℕ
channel_of_range range n = if is_channel_in range n then Some n else None

abbrev pub channel_of : ℕ → Option ℕ
channel_of = channel_of_range Rfc8656

-- in a CHANNEL-NUMBER, the high half of four bytes
abbrev pub channel_number : ℕ → ℕ
channel_number channel = 2 ^ 16 * channel

abbrev pub channel_in : ℕ → Option ℕ
channel_in n = channel_of (n / 2 ^ 16)

abbrev pub old_channel_in : ℕ → Option ℕ
old_channel_in n = channel_of_range Rfc5766 (n / 2 ^ 16)

-- as it is printed
abbrev pub channel_text : ℕ → List ℕ
channel_text channel = codes "0x" ++ digits 16 false channel

-- ---- How a message begins: the number of a channel and the length of the data, in two bytes each

abbrev pub channel_field : List ℕ → ℕ
channel_field b = 256 * slice_index b 0 + slice_index b 1

abbrev pub data_length : List ℕ → ℕ
data_length b = number (slice_range b 2 4)

-- why no channel and length begin the bytes: with the first, if there is one, no number of a channel
-- begins, or there are fewer than four
abbrev pub begin_fault_in : ChannelRange → List ℕ → Option ChannelDataError
begin_fault_in range b =
    if list_all (begins_number range) (take 1 b)
    then (if nat_lt (length b) 4 then Some (Truncated 4 (length b)) else None)
    else Some NotChannelData

abbrev pub begin_fault : List ℕ → Option ChannelDataError
begin_fault = begin_fault_in Rfc8656
