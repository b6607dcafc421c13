-- The relayed addresses that an iterator yields.
use Rattle.std.specs.Prelude.{ℕ, List, [], ◌∷◌, Option, None, Some, drop, map}
use Rattle.turn_relays.specs.Shown.{relayed_of}
use Rattle.turn_relays.specs.declared.relayed.Relayed.{Relayed}
pub use Rattle.turn_relays.specs.declared.iter.Iter.{Iter}

-- what the slots have, in their order
abbrev pub taken : {X : Type 0} → List (Option X) → List X
taken [] = []
taken (None ∷ slots) = taken slots
taken (Some x ∷ slots) = x ∷ taken slots

-- what an iterator has still to yield
abbrev pub relayed_left : {P C : ℕ} → Iter P C → List Relayed
relayed_left iter = map relayed_of (taken (drop iter.slot iter.relays.now.slots))
