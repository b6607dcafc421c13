-- What is before and after data that a client sends in a ChannelData message or in a Send
-- indication, or a server in a Data indication (RFC 8656, sections 11.1, 11.3, 12.4 and 12.5), as it
-- is written in place.
use Rattle.std.specs.Prelude.{◌≡◌, ℕ, ◌+◌, ◌-◌, ◌≤◌, min, nat_lt, if◌then◌else◌, List, [], ◌∷◌, ◌++◌, length, take, drop, replicate, Option, Some, None}
use Rattle.std.specs.declared.net.socket_addr.SocketAddr.{SocketAddr}
use Rattle.std.specs.Net.Socket.{socket_ip}
use Rattle.stun_grammar.specs.declared.error.StunWriteError.{StunWriteError}
use Rattle.stun_grammar.specs.declared.error.StunWriteError.TheVariants.{TooLarge, TooSmall}
use Rattle.stun_grammar.specs.Numbers.{be16, padded_length}
use Rattle.stun_grammar.specs.Attributes.{Attribute, canonical, header_encoding}
use Rattle.stun_grammar.specs.Writing.{message_encoding, greatest_length}
use Rattle.stun_grammar.specs.Adding.{grown_length}
use Rattle.stun_base.specs.declared.message_class.MessageClass.TheVariants.{Indication}
use Rattle.stun_base.specs.MessageTypes.{type_of}
use Rattle.stun_values.specs.Addresses.{octets_count, xored_value}
use Rattle.turn_attrs.specs.declared.heads.Head.{Head}
use Rattle.turn_attrs.specs.ChannelMessages.{channel_message}
use Rattle.turn_attrs.specs.Turn.{XOR_PEER_ADDRESS, DATA}

-- how many zeros follow n bytes up to a multiple of 4
abbrev pub padding_of : ℕ → ℕ
padding_of n = padded_length n - n

-- ---- The messages

-- a ChannelData message as a stream has it
abbrev pub padded_message : (channel : ℕ) → List ℕ → List ℕ
padded_message channel data_bytes =
    channel_message channel data_bytes ++ replicate (padding_of (length data_bytes)) 0

-- the address of a peer
abbrev pub peer_attribute : (id : ℕ) → SocketAddr → Attribute
peer_attribute id peer = canonical XOR_PEER_ADDRESS (xored_value id peer)

-- an indication of a method: the address of the peer, and the data
abbrev pub peer_indication : (method id : ℕ) → SocketAddr → List ℕ → List ℕ
peer_indication method id peer data_bytes =
    message_encoding (type_of Indication method) id
    (peer_attribute id peer ∷ canonical DATA data_bytes ∷ [])

-- a Send indication: data for the peer
abbrev pub send_indication : (id : ℕ) → SocketAddr → List ℕ → List ℕ
send_indication = peer_indication 6

-- a Data indication: data of the peer
abbrev pub data_indication : (id : ℕ) → SocketAddr → List ℕ → List ℕ
data_indication = peer_indication 7

-- ---- Their heads

-- a head is at the end of a slice, the rest of which stays; with any data of n bytes after it, and
-- zeros after that, it is the message of this data
pub record IsHead (n : ℕ) (message : List ℕ → List ℕ) (old new : List ℕ) (head : Head) : Type 0 where
  pub within : head.length ≤ length old
  pub rest : take (length old - head.length) new ≡ take (length old - head.length) old
  pub padding_is : head.padding ≡ padding_of n
  pub framed : (data_bytes : List ℕ) → length data_bytes ≡ n
      → (drop (length old - head.length) new ++ data_bytes) ++ replicate head.padding 0
      ≡ message data_bytes

-- how long the head of a Send or Data indication is: a header, the peer's address, and the header of
-- DATA
abbrev pub data_head_length : SocketAddr → ℕ
data_head_length peer = 20 + (8 + octets_count (socket_ip peer)) + 4

-- Why no head is written before n bytes of data: a length field can't state so many; the message is
-- longer than the transport takes, or than its length field can state; or the slice is shorter than
-- the head. `padding` is the part of the message after the data.
abbrev pub head_fault : (own padding n greatest room : ℕ) → Option StunWriteError
head_fault own padding n greatest room =
    let most = min greatest greatest_length in
    if nat_lt 65535 n then Some (TooLarge 65535 n) else (
    if nat_lt most (own + n + padding) then Some (TooLarge most (own + n + padding)) else (
    if nat_lt room own then Some (TooSmall own room) else None))

abbrev pub channel_head_fault : (n greatest room : ℕ) → Option StunWriteError
channel_head_fault = head_fault 4 0

abbrev pub data_head_fault : SocketAddr → (n greatest room : ℕ) → Option StunWriteError
data_head_fault peer n = head_fault (data_head_length peer) (padding_of n) n

-- ---- How such an indication is begun

-- the header of an attribute whose value has n bytes
unfoldable pub value_header : (type n : ℕ) → List ℕ
value_header type n = header_encoding type n

-- a message with the header of one more attribute at its end, whose value of n bytes follows: the
-- length field counts it in
unfoldable pub opened : List ℕ → (type n : ℕ) → List ℕ
opened message type n =
    take 2 message ++ (be16 (grown_length (length message) n - 20)
    ++ (drop 4 message ++ value_header type n))

abbrev pub peer_head : (method id : ℕ) → SocketAddr → ℕ → List ℕ
peer_head method id peer n =
    opened (message_encoding (type_of Indication method) id (peer_attribute id peer ∷ [])) DATA n
