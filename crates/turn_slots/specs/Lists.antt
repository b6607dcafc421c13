-- The relayed addresses as a list, for definitions about one.
use Rattle.std.specs.Prelude.{◌≡◌, ℕ, ◌<◌, Bool, false, List, [], ◌∷◌, Option, None, Some, length, count_by, slice_index_or, slice_set}
use Rattle.std.specs.List.Sorted.{IsPermutation}
use Rattle.turn_slots.specs.Slots.{Entry}

-- the relayed addresses, in the order of their slots
abbrev pub listed : List (Option Entry) → List Entry
listed [] = []
listed (None ∷ os) = listed os
listed (Some e ∷ os) = e ∷ listed os

abbrev pub passes : (Entry → Bool) → Option Entry → Bool
passes test None = false
passes test (Some e) = test e

-- but for the order, an opening puts a relayed address in front of the list, and an end removes it; a
-- count over the slots is one over the list
pub record ListsAgree : Type 0 where
  pub opened : (entries : List (Option Entry)) (slot : ℕ) (e : Entry) → slot < length entries
      → slice_index_or entries slot None ≡ None
      → IsPermutation (e ∷ listed entries) (listed (slice_set entries slot (Some e)))
  pub ended : (entries : List (Option Entry)) (slot : ℕ) (e : Entry)
      → slice_index_or entries slot None ≡ Some e
      → IsPermutation (listed entries) (e ∷ listed (slice_set entries slot None))
  pub counted : (entries : List (Option Entry)) (test : Entry → Bool)
      → count_by test (listed entries) ≡ count_by (passes test) entries
