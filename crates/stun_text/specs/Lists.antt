-- Texts of items, with a comma and a space between them.
use Rattle.std.specs.Prelude.{ℕ, zero, suc, List, [], ◌∷◌, ◌++◌, codes}
use Rattle.std.specs.List.{flat_map}

-- the text of each item, one after the other
abbrev pub with_commas : {A : Type 0} → (A → List ℕ) → List A → List ℕ
with_commas text [] = []
with_commas text (first ∷ others) = text first ++ flat_map (λ other. codes ", " ++ text other) others

-- what precedes the item at an index
abbrev pub comma_before : ℕ → List ℕ
comma_before zero = []
comma_before (suc index) = codes ", "
