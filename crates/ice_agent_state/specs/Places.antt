-- The places of pairs in the list.
use Rattle.std.specs.Prelude.{◌≡◌, ℕ, ◌<◌, Bool, true, List, length, get_or, find, Option, None, Some}
use Rattle.ice_machine.specs.declared.pairs.Pair.{Pair}

-- of a pair that passes a test, if there is one
abbrev pub IsPlace : (Pair → Bool) → List Pair → Option ℕ → Type 0
IsPlace test ps None = find test ps ≡ None
IsPlace test ps (Some i) = (i < length ps) × ((d : Pair) → test (get_or ps i d) ≡ true)
