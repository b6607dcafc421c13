-- What a TURN server does for an ICMP packet, as C sees it (RFC 8656, section 11.5).
use Rattle.std.specs.Prelude.{◌≡◌, ℕ, List, length, Option, None, Some, MatchOption, IsSomeAnd, nat_lt, if◌then◌else◌}
use Rattle.stun_grammar.specs.Numbers.{number}
use Rattle.stun_endpoints.specs.declared.endpoints.Endpoint.{Endpoint}
use Rattle.turn_attrs.specs.declared.icmp.IcmpError.{IcmpError}
use Rattle.turn_server.specs.Icmp.{Notifies as NotifiesBy}
use Rattle.turn_server.specs.declared.action.IcmpDelivery.{IcmpDelivery}
use Rattle.stun_types_c.specs.declared.address.Address.{Address}
use Rattle.stun_types_c.specs.declared.call_result.CResult.{CResult}
use Rattle.stun_types_c.specs.declared.reading.Id.{Id}
use Rattle.stun_types_c.specs.declared.turn_core.TurnCore.{TurnCore}
use Rattle.stun_types_c.specs.declared.turn_icmp.CIcmp.{CIcmp}
use Rattle.stun_types_c.specs.declared.turn_icmp.CNotice.{CNotice}
use Rattle.stun_types_c.specs.Addresses.{endpoint_named}
use Rattle.stun_types_c.specs.Codes.{OK, TOO_SMALL, BAD_ARGUMENT}
use Rattle.stun_types_c.specs.CResults.{plain, counted, Refuses}
use Rattle.stun_types_c.specs.TurnAddresses.{nowhere, HoldsTuple}
use Rattle.stun_types_c.specs.TurnClients.{IsSameServer}
use Rattle.stun_types_c.specs.TurnServers.{setup_in, rules_in}

-- ---- What C is to do

-- what a packet says
abbrev pub icmp_named : CIcmp → IcmpError
icmp_named named = record { icmp_type = named.icmp_type; code = named.code; «data» = named.«data» }

-- a slice, and where the message goes
pub record Told : Type 0 where
  pub slice : List ℕ
  pub notice : CNotice

-- nowhere; and the call ended so many relayed addresses
abbrev pub untold : (ended : ℕ) → CNotice
untold ended = record {
  to = record { client = nowhere; server = nowhere; stream = 0 };
  sends = 0;
  length = 0;
  ended = ended;
}

abbrev pub nowhere_told : CNotice
nowhere_told = untold 0

-- a message, or that a packet is dropped
abbrev pub IsNotice : Option IcmpDelivery → (ended : ℕ) → CNotice → Type 0
IsNotice None ended held = held ≡ untold ended
IsNotice (Some delivery) ended held =
    HoldsTuple delivery.to held.to
    × ((held.sends ≡ 1) × ((held.length ≡ delivery.length) × (held.ended ≡ ended)))

-- ---- The call

-- the server takes the packet, as `TurnServer` does
pub record Notifies (core : TurnCore) (now relay id : ℕ) (peer : Endpoint) (error : IcmpError) (new : TurnCore)
    (before after : Told) : Type 0 where
  pub same : IsSameServer core new
  pub delivery : Option IcmpDelivery
  pub notifies : NotifiesBy (setup_in core) (rules_in core) now relay peer error id core.server new.server
      before.slice after.slice delivery
  pub in_c : IsNotice delivery (length new.server.ended) after.notice

-- how many bytes a message has at most
abbrev pub message_max : ℕ
message_max = 56

pub record IcmpLeft : Type 0 where
  pub core : Option TurnCore
  pub told : Told

-- why a slice is too short
abbrev pub message_answer : (room : ℕ) → Option CResult
message_answer room = if nat_lt room message_max then Some (counted TOO_SMALL message_max room) else None

abbrev pub NotifiesIn : TurnCore → (now relay id : ℕ) → Endpoint → IcmpError → CResult → IcmpLeft → IcmpLeft
    → Type 0
NotifiesIn core now relay id peer error result old new =
    MatchOption (message_answer (length old.told.slice))
    ((result ≡ plain OK) × IsSomeAnd new.core (λ kept.
    Notifies core now relay id peer error kept old.told new.told))
    (λ answer. Refuses answer result old new)

abbrev pub TakesIcmp : (now : ℕ) → Address → (relay : ℕ) → CIcmp → Id → CResult → IcmpLeft → IcmpLeft → Type 0
TakesIcmp now address relay error id result old new =
    MatchOption (endpoint_named address)
    (Refuses (plain BAD_ARGUMENT) result old new)
    (λ peer. MatchOption old.core
    (Refuses (plain BAD_ARGUMENT) result old new)
    (λ core. NotifiesIn core now relay (number id.bytes) peer (icmp_named error) result old new))
