-- The allocations with their slots.
use Rattle.std.specs.Prelude.{ℕ, ◌+◌, List, [], ◌∷◌, Option, None, Some, drop}
use Rattle.turn_slots.specs.Slots.{Entry}
pub use Rattle.turn_slots.specs.declared.iter.Iter.{Iter}

-- the slots that are taken, of these which begin with this one, each with its allocation
abbrev pub taken_from : (slot : ℕ) → List (Option Entry) → List (ℕ × Entry)
taken_from slot [] = []
taken_from slot (None ∷ os) = taken_from (slot + 1) os
taken_from slot (Some e ∷ os) = (slot, e) ∷ taken_from (slot + 1) os

-- what an iterator has still to yield
abbrev pub taken_left : Iter → List (ℕ × Entry)
taken_left iter = taken_from iter.slot (drop iter.slot iter.entries.now)
