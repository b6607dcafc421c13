-- What comes before and after the data of a peer that goes to a client (RFC 8656, sections 11.3 and 12.4 to
-- 12.7).
use Rattle.std.specs.Prelude.{◌≡◌, ℕ, ◌-◌, ◌≤◌, Bool, true, false, not, ◌&&◌, List, ◌++◌, length, take, drop, replicate, Option, None, Some, is_some, IsSomeAnd, MatchOption, ◌==◌, if◌then◌else◌}
use Rattle.std.specs.declared.net.socket_addr.SocketAddr.{SocketAddr}
use Rattle.stun_framing.specs.declared.channel_range.ChannelRange.TheVariants.{Rfc5766}
use Rattle.turn_attrs.specs.Channels.{is_channel_in}
use Rattle.turn_attrs.specs.ChannelMessages.{channel_message}
use Rattle.turn_attrs.specs.Heads.{padded_message, data_indication, channel_head_fault, data_head_fault}
use Rattle.stun_endpoints.specs.declared.endpoints.Endpoint.{Endpoint}
use Rattle.stun_endpoints.specs.declared.endpoints.FiveTuple.{FiveTuple}
use Rattle.turn_machine.specs.Relays.{Setup, Rules}
use Rattle.turn_machine.specs.Events.{arrives}
use Rattle.turn_allocations.specs.declared.relaying.ToClient.{ToClient}
use Rattle.turn_allocations.specs.Outputs.{receiving}
use Rattle.turn_machine.specs.Reserving.{plain}
use Rattle.turn_reservations.specs.Calls.{Reserving, IsOuterStep}
use Rattle.turn_server.specs.declared.action.Delivery.{Delivery}
use Rattle.stun_endpoints.specs.Conversions.{socket_of}

-- the length of the greatest message that the transport to a client takes. On a stream it is that of the
-- greatest message: 20 bytes and the greatest multiple of 4 that a length field can state
abbrev pub greatest_to : FiveTuple → ℕ
greatest_to tuple =
    if tuple.transport == 17 then (if tuple.client.ip.family == 1 then 65507 else 65527)
    else 65552

-- a ChannelData message, which only a stream pads
abbrev pub message_on : FiveTuple → (channel : ℕ) → List ℕ → List ℕ
message_on tuple channel bytes =
    if tuple.transport == 17 then channel_message channel bytes else padded_message channel bytes

abbrev pub message_by : FiveTuple → (channel : Option ℕ) → (id : ℕ) → SocketAddr → List ℕ → List ℕ
message_by tuple None id peer bytes = data_indication id peer bytes
message_by tuple (Some channel) id peer bytes = message_on tuple channel bytes

-- the message with n bytes of data isn't too long for the transport, and a slice has room for what comes
-- before them
abbrev pub has_channel_head : FiveTuple → (channel n room : ℕ) → Bool
has_channel_head tuple channel n room =
    is_channel_in Rfc5766 channel && not (is_some (channel_head_fault n (greatest_to tuple) room))

abbrev pub has_data_head : FiveTuple → SocketAddr → (n room : ℕ) → Bool
has_data_head tuple peer n room = not (is_some (data_head_fault peer n (greatest_to tuple) room))

abbrev pub has_head : FiveTuple → (channel : Option ℕ) → SocketAddr → (n room : ℕ) → Bool
has_head tuple None peer n room = has_data_head tuple peer n room
has_head tuple (Some channel) peer n room = has_channel_head tuple channel n room

-- what comes before n bytes of data is at the end of a slice, the rest of which stays: with the data,
-- and zeros after it, it is the message
pub record IsFramed (n : ℕ) (message : List ℕ → List ℕ) (old new : List ℕ) (head_length padding : ℕ)
    : Type 0 where
  pub within : head_length ≤ length old
  pub rest : take (length old - head_length) new ≡ take (length old - head_length) old
  pub framed : (bytes : List ℕ) → length bytes ≡ n
      → (drop (length old - head_length) new ++ bytes) ++ replicate padding 0 ≡ message bytes

-- it is written, if it is due, and the result is its length and how many zeros follow the data
abbrev pub WritesHead : Bool → (n : ℕ) → (message : List ℕ → List ℕ) → (old new : List ℕ)
    → Option (ℕ × ℕ) → Type 0
WritesHead true n message old new result =
    IsSomeAnd result (λ written. IsFramed n message old new written.0 written.1)
WritesHead false n message old new result = (result ≡ None) × (new ≡ old)

-- ---- A peer's datagram

-- data of n bytes goes to a client
pub record IsDelivered (to : ToClient) (n id : ℕ) (peer : SocketAddr) (old new : List ℕ)
    (delivery : Delivery) : Type 0 where
  pub to_is : delivery.to ≡ to.tuple
  pub framed : IsFramed n (message_by to.tuple to.channel id peer) old new delivery.head_length
      delivery.padding

abbrev pub DeliversIf : Bool → ToClient → (n id : ℕ) → SocketAddr → (old new : List ℕ)
    → Option Delivery → Type 0
DeliversIf true to n id peer old new result = IsSomeAnd result (IsDelivered to n id peer old new)
DeliversIf false to n id peer old new result = (result ≡ None) × (new ≡ old)

abbrev pub DeliversTo : ToClient → (n id : ℕ) → SocketAddr → (old new : List ℕ) → Option Delivery
    → Type 0
DeliversTo to n id peer old new result =
    DeliversIf (has_head to.tuple to.channel peer n (length old)) to n id peer old new result

-- the server takes the datagram, whatever its bytes are; it is dropped, or goes to a client
pub record Receives (setup : Setup) (rules : Rules) (now number : ℕ) (peer : Endpoint) (n id : ℕ)
    (old new : Reserving) (before after : List ℕ) (result : Option Delivery) : Type 0 where
  pub to : Option ToClient
  pub is_step : (bytes : List ℕ) → IsOuterStep setup rules old now (plain (arrives number peer bytes))
      (receiving to peer bytes) None new
  pub delivers : MatchOption to ((result ≡ None) × (after ≡ before))
      (λ to. DeliversTo to n id (socket_of peer) before after result)
