-- What is around data that a client sends to a peer (RFC 8656, sections 11.1, 12.4 and 12.5).
use Rattle.std.specs.Prelude.{◌≡◌, ℕ, ◌+◌, ◌-◌, ◌≤◌, min, nat_lt, if◌then◌else◌, List, [], ◌∷◌, ◌++◌, length, take, drop, replicate, Option, None, Some}
use Rattle.std.specs.Option.{option_or}
use Rattle.std.specs.declared.net.socket_addr.SocketAddr.{SocketAddr}
use Rattle.stun_grammar.specs.Attributes.{canonical}
use Rattle.stun_grammar.specs.Writing.{greatest_length, message_encoding}
use Rattle.stun_grammar.specs.declared.error.StunWriteError.TheVariants.{TooSmall}
use Rattle.stun_base.specs.declared.message_class.MessageClass.TheVariants.{Indication as IndicationClass}
use Rattle.stun_base.specs.MessageTypes.{type_of}
use Rattle.stun_grammar.specs.declared.error.StunWriteError.{StunWriteError}
use Rattle.stun_base.specs.declared.transport.TransportType.{TransportType}
use Rattle.stun_base.specs.declared.transport.TransportType.TheVariants.{Udp, Tcp}
use Rattle.stun_endpoints.specs.Conversions.{socket_of}
use Rattle.turn_attrs.specs.declared.heads.Head.{Head}
use Rattle.turn_attrs.specs.ChannelMessages.{channel_message}
use Rattle.turn_attrs.specs.Heads.{padded_message, peer_attribute, send_indication, channel_head_fault, data_head_fault, data_head_length}
use Rattle.turn_attrs.specs.Turn.{DATA, DONT_FRAGMENT}
use Rattle.turn_client_messages.specs.declared.sending.Carrier.{Carrier}
use Rattle.turn_client_messages.specs.declared.sending.Carrier.TheVariants.{Channel, Indication, Whole}

-- a ChannelData message, which has padding on a stream alone (section 12.5)
abbrev pub channel_text : TransportType → (channel : ℕ) → List ℕ → List ℕ
channel_text Udp channel bytes = channel_message channel bytes
channel_text Tcp channel bytes = padded_message channel bytes

-- A Send indication that asks the server to set the DF bit in what it sends to the peer (sections 11.1 and
-- 18.9)
abbrev pub whole_indication : (id : ℕ) → SocketAddr → List ℕ → List ℕ
whole_indication id peer bytes =
    message_encoding (type_of IndicationClass 6) id
    (canonical DONT_FRAGMENT [] ∷ peer_attribute id peer ∷ canonical DATA bytes ∷ [])

-- the message that carries data to a peer
abbrev pub carried : TransportType → Carrier → List ℕ → List ℕ
carried transport (Channel channel) bytes = channel_text transport channel bytes
carried transport (Indication id peer) bytes = send_indication id (socket_of peer) bytes
carried transport (Whole id peer) bytes = whole_indication id (socket_of peer) bytes

-- a head is at the end of a slice, the rest of which stays; with any data of n bytes after it, and
-- zeros after that, it is the message that carries the data
pub record Surrounds (n : ℕ) (text : List ℕ → List ℕ) (old new : List ℕ) (head : Head) : Type 0
  where
    pub within : head.length ≤ length old
    pub rest : take (length old - head.length) new ≡ take (length old - head.length) old
    pub framed : (bytes : List ℕ) → length bytes ≡ n
        → (drop (length old - head.length) new ++ bytes) ++ replicate head.padding 0 ≡ text bytes

-- Why no head with DONT-FRAGMENT is written: the message is longer than the transport takes, or than its length
-- field can state, which is said of the message without the four bytes of DONT-FRAGMENT; or the slice is
-- shorter than the head
abbrev pub whole_head_fault : SocketAddr → (n greatest room : ℕ) → Option StunWriteError
whole_head_fault peer n greatest room =
    option_or (data_head_fault peer n (min greatest greatest_length - 4) 48)
    (if nat_lt room (data_head_length peer + 4) then Some (TooSmall (data_head_length peer + 4) room) else None)

-- why no head is written
abbrev pub head_fault_of : Carrier → (n greatest room : ℕ) → Option StunWriteError
head_fault_of (Channel channel) n greatest room = channel_head_fault n greatest room
head_fault_of (Indication id peer) n greatest room = data_head_fault (socket_of peer) n greatest room
head_fault_of (Whole id peer) n greatest room = whole_head_fault (socket_of peer) n greatest room
