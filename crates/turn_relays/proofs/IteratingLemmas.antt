-- The list of relayed addresses has what an iterator yields, in another order.
use Rattle.std.proofs.Common.{ℕ, List, [], ◌∷◌, map, Option, None, Some}
use Rattle.std.specs.Prelude.{nat_lt}
use Rattle.std.specs.List.Sorted.{IsPermutation}
use Rattle.std.proofs.lemmas.Bool.{cond_both}
use Rattle.std.proofs.lemmas.List.Sorted.{IsPermutation-refl, IsPermutation-trans, IsPermutation-cons, IsPermutation-middle, IsPermutation-map}
use Rattle.turn_relays.specs.Newest.{put, newest_first}
use Rattle.turn_relays.specs.Iterating.{taken}

put_permutes : {X : Type 0} (number : X → ℕ) (x : X) (ys : List X) → IsPermutation (put number x ys) (x ∷ ys)
put_permutes number x [] = IsPermutation-refl (x ∷ [])
put_permutes number x (y ∷ ys) =
    cond_both (nat_lt (number x) (number y)) (y ∷ put number x ys) (x ∷ y ∷ ys) (λ zs. IsPermutation zs (x ∷ y ∷ ys))
    (λ _. IsPermutation-trans (y ∷ put number x ys) (y ∷ x ∷ ys) (x ∷ y ∷ ys)
    (IsPermutation-cons y (put number x ys) (x ∷ ys) (put_permutes number x ys)) (IsPermutation-middle (y ∷ []) x ys))
    (λ _. IsPermutation-refl (x ∷ y ∷ ys))

pub newest_permutes : {X : Type 0} (number : X → ℕ) (slots : List (Option X)) → IsPermutation (newest_first number slots) (taken slots)
newest_permutes number [] = IsPermutation-refl []
newest_permutes number (None ∷ slots) = newest_permutes number slots
newest_permutes number (Some x ∷ slots) =
    IsPermutation-trans (put number x (newest_first number slots)) (x ∷ newest_first number slots) (x ∷ taken slots)
    (put_permutes number x (newest_first number slots))
    (IsPermutation-cons x (newest_first number slots) (taken slots) (newest_permutes number slots))

pub shown_permutes : {X Y : Type 0} (number : X → ℕ) (f : X → Y) (slots : List (Option X)) → IsPermutation (map f (newest_first number slots)) (map f (taken slots))
shown_permutes number f slots = IsPermutation-map f (newest_first number slots) (taken slots) (newest_permutes number slots)
