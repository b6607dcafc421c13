-- The slots of a TURN server's relayed addresses: one or two of each allocation (RFC 8656, section 6).
use Rattle.std.specs.Prelude.{◌≡◌, ℕ, ◌+◌, ◌<◌, ◌⊎◌, Bool, true, false, List, Option, None, Some, IfSome, IfNone, length, slice_index_or, slice_set}
use Rattle.turn_slots.specs.Relays.{RelayKey, is_relay}
use Rattle.turn_slots.specs.Users.{UserId, is_user}
use Rattle.turn_slots.specs.Numbers.{rounds}
use Rattle.turn_slots.specs.declared.hashing.Secret.{Secret}
pub use Rattle.turn_slots.specs.declared.slots.Entry.{Entry}

-- what each slot has, how many relayed addresses were opened, and the key of the hashes
pub record State : Type 0 where
  pub entries : List (Option Entry)
  pub round : ℕ
  pub secret : Secret

abbrev pub at_slot : State → (slot : ℕ) → Option Entry
at_slot state slot = slice_index_or state.entries slot None

-- this slot has this relayed address
abbrev pub Holds : State → (slot : ℕ) → Entry → Type 0
Holds state slot e = at_slot state slot ≡ Some e

-- this is so of each relayed address
abbrev pub Each : State → (Entry → Type 0) → Type 0
Each state P = (slot : ℕ) (e : Entry) → Holds state slot e → P e

-- the slot of the relayed address with a key, or none if no relayed address has it
pub record IsSlotOf (state : State) (key : RelayKey) (found : Option ℕ) : Type 0 where
  pub some : IfSome found (λ slot. (e : Entry) × Holds state slot e × (is_relay key e.key ≡ true))
  pub none : IfNone found (Each state (λ e. is_relay key e.key ≡ false))
  pub only : (slot : ℕ) (e : Entry) → Holds state slot e → is_relay key e.key ≡ true
      → found ≡ Some slot

-- no slot is free
abbrev pub IsFull : State → Type 0
IsFull state = (slot : ℕ) → slot < length state.entries → (e : Entry) × Holds state slot e

-- no slot is free, or there have been as many openings as there can be
abbrev pub IsClosed : State → Type 0
IsClosed state = IsFull state ⊎ (state.round ≡ rounds)

abbrev pub is_live : Option Entry → Bool
is_live None = false
is_live (Some e) = true

-- whether a slot has a relayed address of this user
abbrev pub is_users : UserId → Option Entry → Bool
is_users user None = false
is_users user (Some e) = is_user user e.user

-- a free slot gets the relayed address, and nothing else changes but the count of openings
pub record Opens (slot : ℕ) (e : Entry) (old new : State) : Type 0 where
  pub within : slot < length old.entries
  pub free : at_slot old slot ≡ None
  pub early : old.round < rounds
  pub state : new ≡ record old {
    entries = slice_set old.entries slot (Some e);
    round = old.round + 1;
  }

-- the slot is free, and nothing else changes
abbrev pub without : (slot : ℕ) → State → State
without slot state = record state { entries = slice_set state.entries slot None }

-- a relayed address of which this is so ends
abbrev pub Ends : (Entry → Type 0) → (slot : ℕ) → Entry → (old new : State) → Type 0
Ends P slot e old new = Holds old slot e × P e × (new ≡ without slot old)
