-- Lists that a loop goes through from the end.
use Rattle.std.proofs.Common.{◌≡◌, ℕ, suc, ◌+◌, ◌-◌, ◌<◌, ◌≤◌, Bool, true, false, cond, List, [], ◌∷◌, ◌++◌, length, take, drop, filter, get_or, append-nil, take_all, drop_of_length-le, sym, ap, ◌∙◌, subst, arith}
use Rattle.std.proofs.lemmas.Bool.{cond-true}
use Rattle.std.proofs.lemmas.List.{drop_more, length-take}
use Rattle.std.specs.List.Retain.{RetainsInTurn}

-- the elements from a place on
pub drop_splits : {X : Type 0} (xs : List X) (at : ℕ) (d : X) → 0 < at → at ≤ length xs → drop (at - 1) xs ≡ get_or xs (at - 1) d ∷ drop at xs
drop_splits xs at d some within =
    let here : at - 1 + 1 ≡ at = omega (arith, some) in
    let cut : drop (at - 1) xs ≡ get_or xs (at - 1) d ∷ drop (at - 1 + 1) xs = drop_more xs (at - 1) d (omega (arith, some, within)) in
    subst (λ (n : ℕ). drop (at - 1) xs ≡ get_or xs (at - 1) d ∷ drop n xs) here cut

-- of those that pass a test, if the one at the place does
pub drop_passes : {X : Type 0} (test : X → Bool) (xs : List X) (at : ℕ) (d : X) → 0 < at → at ≤ length xs → test (get_or xs (at - 1) d) ≡ true
    → filter test (drop (at - 1) xs) ≡ get_or xs (at - 1) d ∷ filter test (drop at xs)
drop_passes test xs at d some within is =
    ap (filter test) (drop_splits xs at d some within)
    ∙ cond-true (test (get_or xs (at - 1) d)) (get_or xs (at - 1) d ∷ filter test (drop at xs)) (filter test (drop at xs)) is

-- if no call changes the closure or the element, `retain_mut` leaves what passes the test
pub filter-from_retain : {X F : Type 0} (R : F → X → Bool → F → X → Type 0) (test : X → Bool) (f : F)
    → ((x : X) (b : Bool) (f' : F) (y : X) → R f x b f' y → (b ≡ test x) × (f' ≡ f) × (y ≡ x))
    → (xs ys : List X) → RetainsInTurn R f xs ys → ys ≡ filter test xs
filter-from_retain R test f says [] ys h = h
filter-from_retain R test f says (x ∷ xs) ys h =
    let said = says x h.0 h.1 h.2 h.3 in
    let later = subst (λ g. RetainsInTurn R g xs h.4) said.1 h.5 in
    let rest = filter-from_retain R test f says xs h.4 later in
    h.6 ∙ (λ i. cond (said.0 i) (said.2 i ∷ rest i) (rest i))

filter_few_by : {X : Type 0} (n : ℕ) (x : X) (xs : List X) (kept : Bool) → length xs ≤ n → length (cond kept (x ∷ xs) xs) ≤ suc n
filter_few_by n x xs true le = omega (arith, le)
filter_few_by n x xs false le = omega (arith, le)

pub filter_few : {X : Type 0} (test : X → Bool) (xs : List X) → length (filter test xs) ≤ length xs
filter_few test [] = omega arith
filter_few test (x ∷ xs) = filter_few_by (length xs) x (filter test xs) (test x) (filter_few test xs)

-- what was written over the front of a list of the same length
pub take_written : {X : Type 0} (xs ys : List X) (n : ℕ) → length xs ≡ length ys → n ≡ length ys → xs ≡ take n (xs ++ drop (length xs) ys)
take_written xs ys n same all =
    sym (ap (λ rest. take n (xs ++ rest)) (drop_of_length-le ys (omega (arith, same)))
    ∙ ap (take n) (append-nil xs) ∙ take_all n xs (omega (arith, same, all)))

pub take_few : {X : Type 0} (n : ℕ) (xs : List X) → length (take n xs) ≤ n
take_few n xs = let is = length-take n xs in omega (arith, is)
