-- What was relayed for each relayed address, counted by its number.
use Rattle.std.specs.Prelude.{◌≡◌, ◌≢◌, ℕ, ◌+◌, ◌-◌, ◌%◌, ◌^◌, ◌<◌, ◌≤◌, ◌==◌, min, Bool, List, [], ◌∷◌, ◌++◌, length, replicate, slice_index_or, slice_set, if◌then◌else◌}
use Rattle.std.specs.List.{AllByRecursion}
use Rattle.turn_slots.specs.Numbers.{places}
use Rattle.turn_machine.specs.Relays.{Relay}
use Rattle.turn_allocations.specs.declared.metering.Traffic.{Traffic}
use Rattle.turn_allocations.specs.declared.metering.Metered.{Metered}

abbrev pub no_traffic : Traffic
no_traffic = record { packets_to_peers = 0; octets_to_peers = 0; packets_to_client = 0; octets_to_client = 0 }

-- a count of 64 bits, which stays at the greatest
abbrev pub capped : ℕ → ℕ
capped n = min n (2 ^ 64 - 1)

-- with one more packet of so many octets to a peer
abbrev pub with_to_peer : (octets : ℕ) → Traffic → Traffic
with_to_peer octets t = record t {
  packets_to_peers = capped (t.packets_to_peers + 1);
  octets_to_peers = capped (t.octets_to_peers + octets);
}

-- with one more packet of so many octets to the client
abbrev pub with_to_client : (octets : ℕ) → Traffic → Traffic
with_to_client octets t = record t {
  packets_to_client = capped (t.packets_to_client + 1);
  octets_to_client = capped (t.octets_to_client + octets);
}

-- ---- A meter: a place for each slot, with the number that it counts for

abbrev pub unused : Metered
unused = record { number = 0; traffic = no_traffic }

-- the slot of a relayed address, by its number
abbrev pub slot_of : (number : ℕ) → ℕ
slot_of number = number % places

-- nothing, if the place counts for another number
abbrev pub traffic_in : Metered → (number : ℕ) → Traffic
traffic_in place number = if place.number == number then place.traffic else no_traffic

abbrev pub traffic_of : (number : ℕ) → List Metered → Traffic
traffic_of number meter = traffic_in (slice_index_or meter (slot_of number) unused) number

-- the place of a number counts a packet for it
abbrev pub counted : (number : ℕ) → (Traffic → Traffic) → List Metered → List Metered
counted number packet meter =
    slice_set meter (slot_of number) (record { number = number; traffic = packet (traffic_of number meter) })

-- each of these relayed addresses has a place in a meter with so many, and no other has the same
pub record HavePlaces (capacity : ℕ) (relays : List Relay) : Type 0 where
  pub within : AllByRecursion (λ r. slot_of r.number < capacity) relays
  pub apart : AllByRecursion
      (λ r. AllByRecursion (λ other. slot_of other.number ≡ slot_of r.number → other.number ≡ r.number) relays)
      relays

-- ---- Laws

pub record Packet : Type 0 where
  pub number : ℕ
  pub is_to_peer : Bool
  pub octets : ℕ

abbrev pub with_packet : Packet → Traffic → Traffic
with_packet p = if p.is_to_peer then with_to_peer p.octets else with_to_client p.octets

-- a meter that has counted packets, the newest first
abbrev pub meter_after : (capacity : ℕ) → List Packet → List Metered
meter_after capacity [] = replicate capacity unused
meter_after capacity (p ∷ earlier) = counted p.number (with_packet p) (meter_after capacity earlier)

-- all packets of a number
abbrev pub total : (number : ℕ) → List Packet → Traffic
total number [] = no_traffic
total number (p ∷ earlier) =
    if p.number == number then with_packet p (total number earlier) else total number earlier

-- A packet of a number adds to its traffic. It leaves that of each number in another slot, and clears that of
-- each other number in the same slot. A number whose slot is not below the capacity counts nothing. So if no
-- packet of a number was counted before it was opened, and since then none of another in its slot, then its
-- traffic is that of all its packets
pub record MetersCount : Type 0 where
  pub adds : (meter : List Metered) (number : ℕ) (packet : Traffic → Traffic) → slot_of number < length meter
      → traffic_of number (counted number packet meter) ≡ packet (traffic_of number meter)
  pub leaves : (meter : List Metered) (number other : ℕ) (packet : Traffic → Traffic)
      → slot_of other ≢ slot_of number
      → traffic_of other (counted number packet meter) ≡ traffic_of other meter
  pub clears : (meter : List Metered) (number other : ℕ) (packet : Traffic → Traffic)
      → slot_of number < length meter → slot_of other ≡ slot_of number → other ≢ number
      → traffic_of other (counted number packet meter) ≡ no_traffic
  pub ignores : (meter : List Metered) (number : ℕ) (packet : Traffic → Traffic)
      → length meter ≤ slot_of number
      → (counted number packet meter ≡ meter) × (traffic_of number meter ≡ no_traffic)
  pub exact : (capacity number : ℕ) (since before : List Packet) → slot_of number < capacity
      → AllByRecursion (λ p. slot_of p.number ≡ slot_of number → p.number ≡ number) since
      → AllByRecursion (λ p. p.number ≢ number) before
      → traffic_of number (meter_after capacity (since ++ before)) ≡ total number since
