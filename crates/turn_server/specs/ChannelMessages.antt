-- Which numbers the channels of a server's clients have (RFC 8656, section 12).
use Rattle.std.specs.Prelude.{ℕ, Bool, nat_le, if◌then◌else◌}
use Rattle.stun_framing.specs.declared.channel_range.ChannelRange.{ChannelRange}
use Rattle.stun_framing.specs.declared.channel_range.ChannelRange.TheVariants.{Rfc8656, Rfc5766}
use Rattle.stun_framing.specs.Channels.{greatest_channel}

-- the greatest one, and that of RFC 5766
abbrev pub last_channel : (old_channels : Bool) → ℕ
last_channel old_channels = if old_channels then 0x7FFF else 0x4FFF

-- the range that ends with it
abbrev pub range_to : (last_channel : ℕ) → ChannelRange
range_to last_channel =
    if nat_le last_channel (greatest_channel Rfc8656) then Rfc8656 else Rfc5766
