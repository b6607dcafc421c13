-- The relayed addresses in slots, and the state of the machine that they are (RFC 8656, sections 6, 9 and 12).
use Rattle.std.specs.Prelude.{◌≡◌, ◌⊎◌, ℕ, ◌+◌, ◌*◌, ◌<◌, ◌≤◌, true, false, List, [], ◌∷◌, filter, ◌==◌, Option, None, Some, IfSome, IfNone, length, slice_index_or, slice_set}
use Rattle.std.specs.Option.{option_map_or}
use Rattle.stun_endpoints.specs.declared.endpoints.Endpoint.{Endpoint}
use Rattle.stun_endpoints.specs.declared.endpoints.FiveTuple.{FiveTuple}
use Rattle.turn_slots.specs.declared.relay_key.RelayKey.{RelayKey}
use Rattle.turn_slots.specs.declared.slots.Entry.{Entry}
use Rattle.turn_slots.specs.Users.{user_number}
use Rattle.turn_slots.specs.Numbers.{rounds, places}
use Rattle.turn_slots.specs.declared.hashing.Secret.{Secret}
use Rattle.turn_machine.specs.declared.grants.Permission.{Permission}
use Rattle.turn_machine.specs.declared.grants.Channel.{Channel}
use Rattle.turn_machine.specs.Relays.{Relay, State, is_for}
use Rattle.turn_machine.specs.Rows.{with_permission_for, with_permissions, with_channel}
use Rattle.turn_relays.specs.Newest.{newest_first}

-- what is kept of a relayed address besides its entry in the slots
pub record Grants : Type 0 where
  pub transaction_id : ℕ
  pub address : Endpoint
  pub permissions : List Permission
  pub channels : List Channel

abbrev pub new_grants : (transaction_id : ℕ) → Endpoint → Grants
new_grants transaction_id address = record {
  transaction_id = transaction_id;
  address = address;
  permissions = [];
  channels = [];
}

-- with permissions for the peers of a family
abbrev pub permitted : (now family : ℕ) → List Endpoint → Grants → Grants
permitted now family peers g = record g {
  permissions = with_permissions now (filter (λ peer. peer.ip.family == family) peers) g.permissions;
}

-- with a permission for a peer's IP address, of so many seconds, and a channel that is bound to the peer
abbrev pub bound : (lifetime now number : ℕ) → Endpoint → Grants → Grants
bound lifetime now number peer g = record g {
  permissions = with_permission_for lifetime now peer.ip g.permissions;
  channels = with_channel now number peer g.channels;
}

-- what a relayed address has besides
abbrev pub grants_of : Relay → Grants
grants_of r = record {
  transaction_id = r.transaction_id;
  address = r.address;
  permissions = r.permissions;
  channels = r.channels;
}

-- the relayed address of an entry and of what is kept besides
abbrev pub relay_of : Entry → Grants → Relay
relay_of e g = record {
  tuple = e.key.tuple;
  user = user_number e.user;
  transaction_id = g.transaction_id;
  family = e.key.family;
  number = e.number;
  address = g.address;
  expires_at = e.deadline;
  permissions = g.permissions;
  channels = g.channels;
}

-- a slot has a relayed address if it has both
abbrev pub joined : Option Entry → Option Grants → Option Relay
joined None grants = None
joined (Some e) None = None
joined (Some e) (Some g) = Some (relay_of e g)

abbrev pub relays_in : List (Option Entry) → List (Option Grants) → List (Option Relay)
relays_in [] kept = []
relays_in (e ∷ es) [] = None ∷ relays_in es []
relays_in (e ∷ es) (k ∷ kept) = joined e k ∷ relays_in es kept

-- the clock; a lower bound of the next number; how many were opened; the key of the hashes; and the
-- relayed address of each slot
pub record Table : Type 0 where
  pub clock : ℕ
  pub next : ℕ
  pub openings : ℕ
  pub secret : Secret
  pub slots : List (Option Relay)

abbrev pub number_of : Relay → ℕ
number_of r = r.number

-- the state of the machine: the newest first
abbrev pub state_of : Table → State
state_of t = record {
  clock = t.clock;
  next = t.next;
  relays = newest_first number_of t.slots;
}

abbrev pub at_slot : Table → (slot : ℕ) → Option Relay
at_slot t slot = slice_index_or t.slots slot None

-- this slot has this relayed address
abbrev pub Holds : Table → (slot : ℕ) → Relay → Type 0
Holds t slot r = at_slot t slot ≡ Some r

-- this is so of each relayed address
abbrev pub Each : Table → (Relay → Type 0) → Type 0
Each t P = (slot : ℕ) (r : Relay) → Holds t slot r → P r

-- the slot of the client's relayed address of a family, or none if the client has none
pub record IsSlotFor (t : Table) (tuple : FiveTuple) (family : ℕ) (found : Option ℕ) : Type 0 where
  pub some : IfSome found (λ slot. (r : Relay) × Holds t slot r × (is_for tuple family r ≡ true))
  pub none : IfNone found (Each t (λ r. is_for tuple family r ≡ false))
  pub only : (slot : ℕ) (r : Relay) → Holds t slot r → is_for tuple family r ≡ true → found ≡ Some slot

-- a slot gets a relayed address, or none, and nothing else changes
abbrev pub with_slot : (slot : ℕ) → Option Relay → Table → Table
with_slot slot r t = record t { slots = slice_set t.slots slot r }

-- the relayed address in a slot is changed, if there is one
abbrev pub changed_slot : (slot : ℕ) → (Relay → Relay) → Table → Table
changed_slot slot change t =
    option_map_or (λ r. with_slot slot (Some (change r)) t) (at_slot t slot) t

-- no slot is free, or there have been as many openings as there can be
abbrev pub IsClosed : Table → Type 0
IsClosed t = ((slot : ℕ) → slot < length t.slots → (r : Relay) × Holds t slot r) ⊎ (t.openings ≡ rounds)

-- a relayed address when it is opened: with no permissions and no channels
abbrev pub opened : RelayKey → (user transaction_id : ℕ) → Endpoint → (expires_at number : ℕ) → Relay
opened key user transaction_id address expires_at number = record {
  tuple = key.tuple;
  user = user;
  transaction_id = transaction_id;
  family = key.family;
  number = number;
  address = address;
  expires_at = expires_at;
  permissions = [];
  channels = [];
}

-- a free slot gets the relayed address, whose number is above those of all opened before
pub record Opens (slot : ℕ) (r : Relay) (old new : Table) : Type 0 where
  pub within : slot < length old.slots
  pub free : at_slot old slot ≡ None
  pub number : old.next ≤ r.number
  pub state : new ≡ record old {
    next = r.number + 1;
    openings = old.openings + 1;
    slots = slice_set old.slots slot (Some r);
  }

-- The next number, by how many were opened: so numbers last for 2^40 openings
pub record NumbersLast (t : Table) : Type 0 where
  pub fresh : t.next ≤ t.openings * places
  pub near : t.openings * places ≤ t.next + places
