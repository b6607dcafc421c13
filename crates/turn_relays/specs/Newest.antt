-- The items in slots as a list, the largest number first: the newest, since numbers only grow.
use Rattle.std.specs.Prelude.{ℕ, List, [], ◌∷◌, Option, None, Some, nat_lt, if◌then◌else◌}

-- an item, before the first whose number isn't larger
abbrev pub put : {X : Type 0} → (X → ℕ) → X → List X → List X
put number x [] = x ∷ []
put number x (y ∷ ys) = if nat_lt (number x) (number y) then y ∷ put number x ys else x ∷ y ∷ ys

abbrev pub newest_first : {X : Type 0} → (X → ℕ) → List (Option X) → List X
newest_first number [] = []
newest_first number (None ∷ slots) = newest_first number slots
newest_first number (Some x ∷ slots) = put number x (newest_first number slots)
