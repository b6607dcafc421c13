-- What a TURN server does for a peer's datagram, as C sees it (RFC 8656, sections 11.3 and 12.7).
use Rattle.std.specs.Prelude.{◌≡◌, ℕ, List, length, Option, None, Some, MatchOption, IsSomeAnd, nat_lt, if◌then◌else◌}
use Rattle.stun_grammar.specs.Numbers.{number}
use Rattle.stun_endpoints.specs.declared.endpoints.Endpoint.{Endpoint}
use Rattle.turn_server.specs.Delivering.{Receives as ReceivesBy}
use Rattle.turn_server.specs.declared.action.Delivery.{Delivery}
use Rattle.stun_types_c.specs.declared.address.Address.{Address}
use Rattle.stun_types_c.specs.declared.call_result.CResult.{CResult}
use Rattle.stun_types_c.specs.declared.reading.Id.{Id}
use Rattle.stun_types_c.specs.declared.turn_core.TurnCore.{TurnCore}
use Rattle.stun_types_c.specs.declared.turn_peer.CDelivery.{CDelivery}
use Rattle.stun_types_c.specs.Addresses.{endpoint_named}
use Rattle.stun_types_c.specs.Codes.{OK, TOO_SMALL, BAD_ARGUMENT}
use Rattle.stun_types_c.specs.CResults.{plain, counted, Refuses}
use Rattle.stun_types_c.specs.TurnAddresses.{nowhere, HoldsTuple}
use Rattle.stun_types_c.specs.TurnClients.{IsSameServer}
use Rattle.stun_types_c.specs.TurnServers.{setup_in, rules_in}

-- ---- What C is to do

-- a slice, and where the data goes
pub record Delivered : Type 0 where
  pub slice : List ℕ
  pub delivery : CDelivery

-- nowhere; and the call ended so many relayed addresses
abbrev pub dropped : (ended : ℕ) → CDelivery
dropped ended = record {
  to = record { client = nowhere; server = nowhere; stream = 0 };
  sends = 0;
  head_length = 0;
  padding = 0;
  ended = ended;
}

abbrev pub nowhere_due : CDelivery
nowhere_due = dropped 0

-- a delivery, or that a datagram is dropped
abbrev pub IsDelivery : Option Delivery → (ended : ℕ) → CDelivery → Type 0
IsDelivery None ended held = held ≡ dropped ended
IsDelivery (Some delivery) ended held =
    HoldsTuple delivery.to held.to × ((held.sends ≡ 1) × ((held.head_length ≡ delivery.head_length)
    × ((held.padding ≡ delivery.padding) × (held.ended ≡ ended))))

-- ---- The call

-- the server takes the datagram of a peer, whatever its bytes are, as `TurnServer` does
pub record Receives (core : TurnCore) (now relay n id : ℕ) (peer : Endpoint) (new : TurnCore)
    (before after : Delivered) : Type 0 where
  pub same : IsSameServer core new
  pub delivery : Option Delivery
  pub receives : ReceivesBy (setup_in core) (rules_in core) now relay peer n id core.server new.server
      before.slice after.slice delivery
  pub in_c : IsDelivery delivery (length new.server.ended) after.delivery

-- how many bytes a head has at most
abbrev pub head_max : ℕ
head_max = 48

pub record PeerLeft : Type 0 where
  pub core : Option TurnCore
  pub delivered : Delivered

-- why a slice is too short
abbrev pub head_answer : (room : ℕ) → Option CResult
head_answer room = if nat_lt room head_max then Some (counted TOO_SMALL head_max room) else None

abbrev pub ReceivesIn : TurnCore → (now relay n id : ℕ) → Endpoint → CResult → PeerLeft → PeerLeft
    → Type 0
ReceivesIn core now relay n id peer result old new =
    MatchOption (head_answer (length old.delivered.slice))
    ((result ≡ plain OK) × IsSomeAnd new.core (λ kept.
    Receives core now relay n id peer kept old.delivered new.delivered))
    (λ answer. Refuses answer result old new)

abbrev pub TakesPeer : (now : ℕ) → Address → (relay n : ℕ) → Id → CResult → PeerLeft → PeerLeft → Type 0
TakesPeer now address relay n id result old new =
    MatchOption (endpoint_named address)
    (Refuses (plain BAD_ARGUMENT) result old new)
    (λ peer. MatchOption old.core
    (Refuses (plain BAD_ARGUMENT) result old new)
    (λ core. ReceivesIn core now relay n (number id.bytes) peer result old new))
