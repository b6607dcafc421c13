-- Where data and ICMP go, in the machine's terms.
use Rattle.std.specs.Prelude.{◌≡◌, ℕ, List, [], ◌∷◌, filter, find, Option, None, Some, if◌then◌else◌}
use Rattle.std.specs.Option.{option_map}
use Rattle.stun_endpoints.specs.declared.endpoints.Endpoint.{Endpoint}
use Rattle.stun_endpoints.specs.declared.endpoints.FiveTuple.{FiveTuple}
use Rattle.turn_machine.specs.Events.{Icmp, Output, to_peer, to_client, to_client_on, to_client_icmp, nothing}
use Rattle.turn_machine.specs.Relays.{Relay, is_of, is_live, is_channel}
use Rattle.turn_relays.specs.Relayed.{Table, state_of, Holds}
use Rattle.turn_allocations.specs.declared.client.Place.{Place}
use Rattle.turn_allocations.specs.Clients.{identity_of, seen, in_place}
use Rattle.turn_allocations.specs.declared.relaying.ToPeer.{ToPeer}
use Rattle.turn_allocations.specs.declared.relaying.ToClient.{ToClient}

-- the output for data of a client
abbrev pub sending : Option ToPeer → List ℕ → Output
sending None bytes = nothing
sending (Some to) bytes = to_peer to.number to.peer to.dont_fragment bytes

-- the output for data of a peer: on a channel, or as a Data indication
abbrev pub receiving_on : FiveTuple → Option ℕ → Endpoint → List ℕ → Output
receiving_on tuple None peer bytes = to_client tuple peer bytes
receiving_on tuple (Some channel) peer bytes = to_client_on tuple channel bytes

abbrev pub receiving : Option ToClient → Endpoint → List ℕ → Output
receiving None peer bytes = nothing
receiving (Some to) peer bytes = receiving_on to.tuple to.channel peer bytes

-- the output for an ICMP packet about a datagram to a peer
abbrev pub bouncing : Option FiveTuple → Endpoint → Icmp → Output
bouncing None peer icmp = nothing
bouncing (Some tuple) peer icmp = to_client_icmp tuple peer icmp

-- ---- What the code finds

-- the place has this relayed address, and its slot
pub record IsOf (t : Table) (place : Place) (r : Relay) : Type 0 where
  pub holds : Holds t place.slot r
  pub shown : seen place.relayed ≡ identity_of r

-- the place of a relayed address, or none if there is none
abbrev pub IsPlaced : Table → Option Place → Option Relay → Type 0
IsPlaced t None o = o ≡ None
IsPlaced t (Some place) o = (r : Relay) × IsOf t place r × (o ≡ Some r)

-- none, one or two, in this order
abbrev pub listed_two : Option Relay → Option Relay → List Relay
listed_two None None = []
listed_two None (Some s) = s ∷ []
listed_two (Some r) None = r ∷ []
listed_two (Some r) (Some s) = r ∷ s ∷ []

-- the client's relayed addresses, the newest first
pub record AreNewestFirst (t : Table) (tuple : FiveTuple) (one other : Option Place) : Type 0 where
  pub first : IsPlaced t one (in_place t one)
  pub second : IsPlaced t other (in_place t other)
  pub all : filter (is_of tuple) (state_of t).relays ≡ listed_two (in_place t one) (in_place t other)

-- the number of a relayed address, and the peer that a channel of it is bound to
abbrev pub peer_by : (now channel : ℕ) → Relay → Option (ℕ × Endpoint)
peer_by now channel r =
    option_map (λ c. (r.number, c.peer)) (find (is_channel now channel) r.channels)

-- the family of a relayed address, unless it has expired
abbrev pub live_family : (now : ℕ) → Relay → Option ℕ
live_family now r = if is_live now r then Some r.family else None
