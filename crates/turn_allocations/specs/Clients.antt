-- The relayed addresses of one client, by their slots.
use Rattle.std.specs.Prelude.{◌≡◌, ℕ, ◌+◌, Bool, true, false, ◌&&◌, ◌||◌, ◌==◌, if◌then◌else◌, nat_le, List, [], ◌∷◌, filter, Option, None, Some, length, option_and_then}
use Rattle.std.specs.List.{AllByRecursion}
use Rattle.std.specs.Option.{option_map_or}
use Rattle.stun_endpoints.specs.declared.endpoints.FiveTuple.{FiveTuple}
use Rattle.turn_machine.specs.Relays.{seconds, Relay, State, is_of, is_for}
use Rattle.turn_relays.specs.Newest.{newest_first}
use Rattle.turn_relays.specs.Relayed.{Table, state_of, number_of, at_slot, Holds, Each}
use Rattle.turn_relays.specs.declared.relayed.Relayed.{Relayed}
use Rattle.turn_slots.specs.Users.{user_number}
use Rattle.stun_endpoints.specs.declared.endpoints.Endpoint.{Endpoint}
use Rattle.turn_allocations.specs.declared.answer.Given.{Given}
use Rattle.turn_allocations.specs.declared.client.Place.{Place}
use Rattle.turn_allocations.specs.declared.client.Client.{Client}

-- ---- Invariants of each relayed address

-- the greatest value of LIFETIME, in seconds: it has 32 bits (RFC 8656, section 18.2)
abbrev pub lifetime_max : ℕ
lifetime_max = 4_294_967_295

-- it is an IPv4 or IPv6 address, and expires within the greatest lifetime
abbrev pub is_sound : (clock : ℕ) → Relay → Bool
is_sound clock r =
    ((r.family == 1) || (r.family == 2)) && nat_le r.expires_at (clock + seconds lifetime_max)

abbrev pub AreSound : Table → Type 0
AreSound t = AllByRecursion (λ r. is_sound t.clock r ≡ true) (state_of t).relays

-- ---- A relayed address without its permissions and channels

pub record Identity : Type 0 where
  pub tuple : FiveTuple
  pub user : ℕ
  pub transaction_id : ℕ
  pub family : ℕ
  pub number : ℕ
  pub address : Endpoint
  pub expires_at : ℕ

abbrev pub identity_of : Relay → Identity
identity_of r = record {
  tuple = r.tuple;
  user = r.user;
  transaction_id = r.transaction_id;
  family = r.family;
  number = r.number;
  address = r.address;
  expires_at = r.expires_at;
}

-- the same of a relayed address as the code returns it
abbrev pub seen : Relayed → Identity
seen r = record {
  tuple = r.key.tuple;
  user = user_number r.user;
  transaction_id = r.transaction_id;
  family = r.key.family;
  number = r.number;
  address = r.address;
  expires_at = r.expires_at;
}

-- ---- The relayed addresses of a client

-- the place has the client's relayed address of a family, and its slot: no other slot has one
pub record IsAt (t : Table) (tuple : FiveTuple) (family : ℕ) (place : Place) : Type 0 where
  pub relay : Relay
  pub holds : Holds t place.slot relay
  pub is_its : is_for tuple family relay ≡ true
  pub shown : seen place.relayed ≡ identity_of relay
  pub only : (slot : ℕ) (other : Relay) → Holds t slot other → is_for tuple family other ≡ true
      → slot ≡ place.slot

-- the place of the client's relayed address of a family, or none if it has none
abbrev pub IsFound : Table → FiveTuple → (family : ℕ) → Option Place → Type 0
IsFound t tuple family None = Each t (λ r. is_for tuple family r ≡ false)
IsFound t tuple family (Some place) = IsAt t tuple family place

-- the place of a client's relayed address of a family
abbrev pub place_of : (family : ℕ) → Client → Option Place
place_of family client =
    if family == 1 then client.ipv4 else if family == 2 then client.ipv6 else None

-- the relayed address in a place, if there is one
abbrev pub in_place : Table → Option Place → Option Relay
in_place t place = option_and_then (λ p. at_slot t p.slot) place

-- whether what is in a place passes a test: false if there is no place
abbrev pub place_any : (Identity → Bool) → Option Place → Bool
place_any test place = option_map_or (λ p. test (seen p.relayed)) place false

abbrev pub given_at : Place → Given
given_at p = record { number = p.relayed.number; address = p.relayed.address }

-- the relayed addresses in a client's places, the newest first
abbrev pub own : Table → Client → List Relay
own t client =
    newest_first number_of (in_place t client.ipv4 ∷ in_place t client.ipv6 ∷ [])

pub record Owns (t : Table) (tuple : FiveTuple) (client : Client) : Type 0 where
  pub ipv4 : IsFound t tuple 1 client.ipv4
  pub ipv6 : IsFound t tuple 2 client.ipv6
  pub all : filter (is_of tuple) (state_of t).relays ≡ own t client

-- ---- What a request leaves

-- the table is in this state, with as many slots as before
pub record Becomes (old new : Table) (state : State) : Type 0 where
  pub state_is : state_of new ≡ state
  pub slots : length new.slots ≡ length old.slots
