-- Which numbers the channels of TURN have.
use Rattle.std.specs.Prelude.{ℕ, Bool, ◌&&◌, nat_le}
use Rattle.stun_framing.specs.declared.channel_range.ChannelRange.{ChannelRange}
use Rattle.stun_framing.specs.declared.channel_range.ChannelRange.TheVariants.{Rfc8656, Rfc5766}

-- the greatest number of a channel, by RFC 8656 (section 12), and by RFC 5766 (section 11), which it
-- replaces
abbrev pub greatest_channel : ChannelRange → ℕ
greatest_channel Rfc8656 = 0x4FFF
greatest_channel Rfc5766 = 0x7FFF

-- and its first byte
abbrev pub greatest_first : ChannelRange → ℕ
greatest_first Rfc8656 = 0x4F
greatest_first Rfc5766 = 0x7F

-- the number of a channel begins with this byte; the least number is 0x4000
abbrev pub begins_number : ChannelRange → ℕ → Bool
begins_number range first = nat_le 0x40 first && nat_le first (greatest_first range)
