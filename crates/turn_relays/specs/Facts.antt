-- Invariants of the relayed addresses (RFC 8656, section 6), and the first of them to end.
use Rattle.std.specs.Prelude.{◌≡◌, ℕ, ◌%◌, ◌≤◌, true}
use Rattle.turn_slots.specs.Numbers.{places}
use Rattle.turn_machine.specs.Relays.{Relay, is_for}
use Rattle.turn_relays.specs.Relayed.{Table, Holds, Each}

-- no two relayed addresses have the same number
abbrev pub NumbersAreDistinct : Table → Type 0
NumbersAreDistinct t =
    (slot other : ℕ) (r s : Relay) → Holds t slot r → Holds t other s → r.number ≡ s.number → slot ≡ other

-- the low 24 bits of a number are the slot of its relayed address
abbrev pub NumbersHaveSlots : Table → Type 0
NumbersHaveSlots t = (slot : ℕ) (r : Relay) → Holds t slot r → r.number % places ≡ slot

-- no client has two relayed addresses of one family
abbrev pub KeysAreDistinct : Table → Type 0
KeysAreDistinct t =
    (slot other : ℕ) (r s : Relay) → Holds t slot r → Holds t other s
    → is_for r.tuple r.family s ≡ true → slot ≡ other

-- a relayed address ends at this moment, and none ends before it
pub record IsFirstEnd (due : ℕ) (t : Table) : Type 0 where
  pub some : (slot : ℕ) × (r : Relay) × Holds t slot r × (r.expires_at ≡ due)
  pub least : Each t (λ r. due ≤ r.expires_at)
