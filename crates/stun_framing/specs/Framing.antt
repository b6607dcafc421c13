-- Messages in the bytes of a stream, one after another, and nothing between them (RFC 8489,
-- sections 5 and 6.2.2); in a stream between a TURN client and its server, ChannelData messages among
-- them (RFC 8656, section 12.5).
use Rattle.std.specs.Prelude.{◌≡◌, ℕ, ◌+◌, ◌%◌, ◌≤◌, ◌⊎◌, Bool, false, ◌||◌, List, ◌++◌, length, take, nat_lt, nat_le, ◌==◌, if◌then◌else◌, IsTrue, Option, None, Some}
use Rattle.std.specs.List.{All, concat, list_any}
use Rattle.std.specs.Option.{option_or}
use Rattle.stun_grammar.specs.Numbers.{padded_length}
use Rattle.stun_grammar.specs.Headers.{is_header, begins, length_field}
use Rattle.stun_framing.specs.declared.channel_range.ChannelRange.{ChannelRange}
use Rattle.stun_framing.specs.declared.channel_range.ChannelRange.TheVariants.{Rfc5766}
use Rattle.stun_framing.specs.declared.stream_kind.StreamKind.{StreamKind}
use Rattle.stun_framing.specs.declared.stream_kind.StreamKind.TheVariants.{Messages, ChannelDataToo}
use Rattle.stun_framing.specs.declared.error.StreamFault.{StreamFault}
use Rattle.stun_framing.specs.declared.error.StreamFault.TheVariants.{NotStun, NotPadded, TooLong}
use Rattle.stun_framing.specs.Channels.{begins_number}

-- what a stream carries, and how many bytes of a message a buffer takes
pub record Room : Type 0 where
  pub carries : StreamKind
  pub size : ℕ

abbrev pub room_of : StreamKind → (size : ℕ) → Room
room_of carries size = record { carries = carries; size = size }

-- ---- ChannelData

-- b begins with the number of a channel of this range, as its first byte shows (RFC 8656, section 12)
abbrev pub begins_channel : ChannelRange → List ℕ → Bool
begins_channel range b = list_any (begins_number range) (take 1 b)

-- and of any channel: its first two bits are 01, those of a STUN message 00 (RFC 5766, section 11)
abbrev pub begins_any_channel : List ℕ → Bool
begins_any_channel = begins_channel Rfc5766

-- b begins with the number of a channel that such a stream carries
abbrev pub begins_carried : StreamKind → List ℕ → Bool
begins_carried Messages b = false
begins_carried (ChannelDataToo range) b = begins_channel range b

-- the length of the ChannelData message that begins with b: a header of four bytes, and as many bytes
-- as that states, padded to a multiple of 4 (RFC 8656, section 12.5)
abbrev pub channel_length : List ℕ → ℕ
channel_length b = padded_length (4 + length_field b)

-- the length of the message that begins with b, as its first four bytes state it
abbrev pub stated_length : List ℕ → ℕ
stated_length b = if begins_any_channel b then channel_length b else 20 + length_field b

-- ---- What a stream is

-- m is a STUN message, as far as a stream shows: a header, and as many bytes after it as that
-- states, a multiple of 4. A buffer of so many bytes takes it
pub record IsStunMessage (size : ℕ) (m : List ℕ) : Type 0 where
  pub header : IsTrue (is_header m)
  pub whole : length m ≡ 20 + length_field m
  pub padded : length_field m % 4 ≡ 0
  pub fits : length m ≤ size

-- m is a ChannelData message with its padding, on a channel of this range
pub record IsChannelData (range : ChannelRange) (size : ℕ) (m : List ℕ) : Type 0 where
  pub channel : IsTrue (begins_channel range m)
  pub header : 4 ≤ length m
  pub whole : length m ≡ channel_length m
  pub fits : length m ≤ size

-- m is a ChannelData message that such a stream carries
abbrev pub IsCarried : StreamKind → (size : ℕ) → (m : List ℕ) → Type 0
IsCarried Messages size m = ⊥
IsCarried (ChannelDataToo range) size m = IsChannelData range size m

-- m is a message of such a stream
abbrev pub IsMessage : Room → (m : List ℕ) → Type 0
IsMessage room m = IsStunMessage room.size m ⊎ IsCarried room.carries room.size m

-- the bytes of a stream are these messages, and then a rest that no message begins
pub record IsCut (room : Room) (bytes : List ℕ) (messages : List (List ℕ)) (rest : List ℕ)
    : Type 0 where
  pub joined : bytes ≡ concat messages ++ rest
  pub each : All (IsMessage room) messages
  pub last : (m behind : List ℕ) → IsMessage room m → ¬ (rest ≡ m ++ behind)

-- b can be the beginning of a stream: it begins with a message, or becomes one by what follows
abbrev pub MayBegin : (room : Room) → List ℕ → Type 0
MayBegin room b =
    (more m behind : List ℕ) × IsMessage room m × (b ++ more ≡ m ++ behind)

-- ---- Why no message begins

-- a header of either kind begins with b
abbrev pub begins_either : StreamKind → List ℕ → Bool
begins_either carries b = begins b || begins_carried carries b

-- no header begins with b
abbrev pub header_refusal : StreamKind → List ℕ → Option StreamFault
header_refusal carries b = if begins_either carries b then None else Some NotStun

-- a message of n bytes is longer than the buffer
abbrev pub size_refusal : (size n : ℕ) → Option StreamFault
size_refusal size n = if nat_le n size then None else Some (TooLong n)

-- no STUN message that a buffer of so many bytes takes has a length field of n
abbrev pub field_refusal : (size n : ℕ) → Option StreamFault
field_refusal size n = if n % 4 == 0 then size_refusal size (20 + n) else Some (NotPadded n)

-- the same of the length field of b, once it is there
abbrev pub length_refusal : (size : ℕ) → List ℕ → Option StreamFault
length_refusal size b =
    if nat_lt (length b) 4 then None else (
    if begins_any_channel b then size_refusal size (channel_length b)
    else field_refusal size (length_field b))

-- why no message begins with b, whatever follows it, by the first byte that shows it: the first one,
-- the fourth, with which the length field is there, or one of the magic cookie
unfoldable pub stream_fault : (room : Room) → List ℕ → Option StreamFault
stream_fault room b =
    option_or (header_refusal room.carries (take 4 b))
    (option_or (length_refusal room.size b) (header_refusal room.carries b))
