-- The list of relayed addresses has exactly what is in the slots.
use Rattle.std.proofs.Common.{◌≡◌, ℕ, ◌+◌, ◌<◌, ◌≤◌, zero, suc, Bool, true, false, cond, List, [], ◌∷◌, map, filter, length, Option, None, Some, get_or, refl, sym, ap, ◌∙◌, subst, arith, inl, inr}
use Rattle.std.specs.List.{AllByRecursion}
use Rattle.std.specs.Prelude.{◌⊎◌, nat_lt, is_some, count_by}
use Rattle.std.proofs.lemmas.Bool.{cond_both, cond-true, cond-false, lt-ltb, le-ltb}
use Rattle.std.proofs.lemmas.List.Sums.{sum_by-cons}
use Rattle.turn_machine.specs.Relays.{Relay}
use Rattle.turn_relays.specs.Newest.{put, newest_first}
use Rattle.turn_relays.specs.Relayed.{number_of}
use Rattle.turn_relays.specs.Listing.{ListHasSlots}
use Rattle.turn_relays.proofs.NewestLemmas.{each_slot, newest_each, kept_if, newest_filter, newest_length}

-- ---- What is so of the list is so of the slots

put_front_is : {X : Type 0} (number : X → ℕ) (P : X → Type 0) (x : X) (ys : List X) → AllByRecursion P (put number x ys) → P x × AllByRecursion P ys
put_front_is number P x [] each = (each.0, tt)
put_front_is number P x (y ∷ ys) each =
    cond_both (nat_lt (number x) (number y)) (y ∷ put number x ys) (x ∷ y ∷ ys) (λ zs. AllByRecursion P zs → P x × AllByRecursion P (y ∷ ys))
    (λ _ all. let more = put_front_is number P x ys all.1 in (more.0, (all.0, more.1)))
    (λ _ all. all) each

slots_each : {X : Type 0} (number : X → ℕ) (P : X → Type 0) (slots : List (Option X)) → AllByRecursion P (newest_first number slots) → (i : ℕ) (a : X) → get_or slots i None ≡ Some a → P a
slots_each number P [] each i a at = absurd cc
slots_each number P (None ∷ slots) each zero a at = absurd cc
slots_each number P (None ∷ slots) each (suc i) a at = slots_each number P slots each i a at
slots_each number P (Some x ∷ slots) each zero a at =
    let is : x ≡ a = cc in
    subst P is (put_front_is number P x (newest_first number slots) each).0
slots_each number P (Some x ∷ slots) each (suc i) a at =
    slots_each number P slots (put_front_is number P x (newest_first number slots) each).1 i a at

-- ---- All slots but one or two are free

some_is : {X : Type 0} (x r : X) → Some x ≡ Some r → x ≡ r
some_is x r is = cc

all_free : {X : Type 0} (number : X → ℕ) (slots : List (Option X)) → ((j : ℕ) (a : X) → get_or slots j None ≡ Some a → ⊥) → newest_first number slots ≡ []
all_free number [] free = refl
all_free number (None ∷ slots) free = all_free number slots (λ j a at. free (suc j) a at)
all_free number (Some x ∷ slots) free = absurd (free 0 x refl)

only_one : {X : Type 0} (number : X → ℕ) (slots : List (Option X)) (i : ℕ) (r : X) → get_or slots i None ≡ Some r
    → ((j : ℕ) (a : X) → get_or slots j None ≡ Some a → j ≡ i) → newest_first number slots ≡ r ∷ []
only_one number [] i r at only = absurd cc
only_one number (None ∷ slots) zero r at only = absurd cc
only_one number (None ∷ slots) (suc i) r at only = only_one number slots i r at (λ j a at_j. let same = only (suc j) a at_j in omega (arith, same))
only_one number (Some x ∷ slots) zero r at only =
    let none = all_free number slots (λ j a at_j. let same = only (suc j) a at_j in absurd (omega (arith, same))) in
    ap (put number x) none ∙ ap (λ y. y ∷ []) (some_is x r at)
only_one number (Some x ∷ slots) (suc i) r at only = let same = only 0 x refl in absurd (omega (arith, same))

only_two : {X : Type 0} (number : X → ℕ) (slots : List (Option X)) (i j : ℕ) (r s : X) → get_or slots i None ≡ Some r → get_or slots j None ≡ Some s → number s < number r
    → ((k : ℕ) (a : X) → get_or slots k None ≡ Some a → (k ≡ i) ⊎ (k ≡ j)) → newest_first number slots ≡ r ∷ s ∷ []
only_two number [] i j r s at_i at_j less only = absurd cc
only_two number (None ∷ slots) zero j r s at_i at_j less only = absurd cc
only_two number (None ∷ slots) (suc i) zero r s at_i at_j less only = absurd cc
only_two number (None ∷ slots) (suc i) (suc j) r s at_i at_j less only =
    only_two number slots i j r s at_i at_j less (λ k a at. elim (only (suc k) a at) [
      | inl same ↦ inl (omega (arith, same))
      | inr same ↦ inr (omega (arith, same))
    ])
only_two number (Some x ∷ slots) zero zero r s at_i at_j less only =
    let is = some_is x r at_i in
    let also = some_is x s at_j in
    absurd (omega (arith, less, ap number (sym is ∙ also)))
only_two number (Some x ∷ slots) zero (suc j) r s at_i at_j less only =
    let is = some_is x r at_i in
    let rest = only_one number slots j s at_j (λ k a at. elim (only (suc k) a at) [
      | inl same ↦ absurd (omega (arith, same))
      | inr same ↦ omega (arith, same)
    ]) in
    ap (put number x) rest
    ∙ (cond-false (nat_lt (number x) (number s)) (s ∷ x ∷ []) (x ∷ s ∷ []) (le-ltb (number x) (number s) (omega (arith, less, ap number is)))
    ∙ ap (λ y. y ∷ s ∷ []) is)
only_two number (Some x ∷ slots) (suc i) zero r s at_i at_j less only =
    let is = some_is x s at_j in
    let rest = only_one number slots i r at_i (λ k a at. elim (only (suc k) a at) [
      | inl same ↦ omega (arith, same)
      | inr same ↦ absurd (omega (arith, same))
    ]) in
    ap (put number x) rest
    ∙ (cond-true (nat_lt (number x) (number r)) (r ∷ x ∷ []) (x ∷ r ∷ []) (lt-ltb (number x) (number r) (omega (arith, less, ap number is)))
    ∙ ap (λ y. r ∷ y ∷ []) is)
only_two number (Some x ∷ slots) (suc i) (suc j) r s at_i at_j less only =
    elim (only 0 x refl) [
      | inl same ↦ absurd (omega (arith, same))
      | inr same ↦ absurd (omega (arith, same))
    ]

-- ---- Those that pass a test

mapped : {X Y : Type 0} (f : Option X → Option Y) (slots : List (Option X)) (i : ℕ) → f None ≡ None → get_or (map f slots) i None ≡ f (get_or slots i None)
mapped f [] i none = sym none
mapped f (x ∷ slots) zero none = refl
mapped f (x ∷ slots) (suc i) none = mapped f slots i none

kept : {X : Type 0} (test : X → Bool) (slots : List (Option X)) (i : ℕ) (r : X) → get_or slots i None ≡ Some r → test r ≡ true → get_or (map (kept_if test) slots) i None ≡ Some r
kept test slots i r at is =
    mapped (kept_if test) slots i refl ∙ (ap (kept_if test) at ∙ cond-true (test r) (Some r) None is)

record Kept {X : Type 0} (test : X → Bool) (o : Option X) (a : X) : Type 0 where
  pub there : o ≡ Some a
  pub passes : test a ≡ true

kept_one : {X : Type 0} (test : X → Bool) (x a : X) (b : Bool) → test x ≡ b → cond b (Some x) None ≡ Some a → Kept test (Some x) a
kept_one test x a true is at = let same = some_is x a at in record { there = at; passes = subst (λ y. test y ≡ true) same is }
kept_one test x a false is at = absurd cc

kept_of : {X : Type 0} (test : X → Bool) (o : Option X) (a : X) → kept_if test o ≡ Some a → Kept test o a
kept_of test None a at = absurd cc
kept_of test (Some x) a at = kept_one test x a (test x) refl at

kept_from : {X : Type 0} (test : X → Bool) (slots : List (Option X)) (i : ℕ) (a : X) → get_or (map (kept_if test) slots) i None ≡ Some a → Kept test (get_or slots i None) a
kept_from test slots i a at = kept_of test (get_or slots i None) a (sym (mapped (kept_if test) slots i refl) ∙ at)

one : (slots : List (Option Relay)) (test : Relay → Bool) (slot : ℕ) (r : Relay) → get_or slots slot None ≡ Some r → test r ≡ true
    → ((at : ℕ) (a : Relay) → get_or slots at None ≡ Some a → test a ≡ true → at ≡ slot) → filter test (newest_first number_of slots) ≡ r ∷ []
one slots test slot r there is only =
    sym (newest_filter number_of test slots)
    ∙ only_one number_of (map (kept_if test) slots) slot r (kept test slots slot r there is)
    (λ at a at_a. let from = kept_from test slots at a at_a in only at a from.there from.passes)

two : (slots : List (Option Relay)) (test : Relay → Bool) (slot other : ℕ) (r s : Relay) → get_or slots slot None ≡ Some r → get_or slots other None ≡ Some s → test r ≡ true → test s ≡ true → s.number < r.number
    → ((at : ℕ) (a : Relay) → get_or slots at None ≡ Some a → test a ≡ true → (at ≡ slot) ⊎ (at ≡ other)) → filter test (newest_first number_of slots) ≡ r ∷ s ∷ []
two slots test slot other r s there also is is_too less only =
    sym (newest_filter number_of test slots)
    ∙ only_two number_of (map (kept_if test) slots) slot other r s (kept test slots slot r there is) (kept test slots other s also is_too) less
    (λ at a at_a. let from = kept_from test slots at a at_a in only at a from.there from.passes)

-- ---- How many there are

count_most : {X : Type 0} (p : X → Bool) (xs : List X) → count_by p xs ≤ length xs
count_most p [] = omega arith
count_most p (x ∷ xs) =
    let more = count_most p xs in
    let here = sum_by-cons (λ y. cond (p y) 1 0) x xs in
    at_most (p x) (length xs) (count_by p xs) (count_by p (x ∷ xs)) more here
  where
    at_most : (b : Bool) (n m all : ℕ) → m ≤ n → all ≡ cond b 1 0 + m → all ≤ suc n
    at_most true n m all le is = omega (arith, le, is)
    at_most false n m all le is = omega (arith, le, is)

count_all : {X : Type 0} (slots : List (Option X)) → ((i : ℕ) → i < length slots → (r : X) × (get_or slots i None ≡ Some r)) → count_by is_some slots ≡ length slots
count_all [] each = refl
count_all (None ∷ slots) each = let first = each 0 (omega arith) in absurd cc
count_all (Some x ∷ slots) each =
    let more = count_all slots (λ i lt. each (suc i) (omega (arith, lt))) in
    let here = sum_by-cons (λ o. cond (is_some o) 1 0) (Some x) slots in
    omega (arith, more, here)

pub list_has : ListHasSlots
list_has = record {
  all = λ slots test each. newest_each number_of (λ r. test r ≡ true) slots (each_slot (λ r. test r ≡ true) slots each);
  each = λ slots test each. slots_each number_of (λ r. test r ≡ true) slots each;
  one = one;
  two = two;
  within = λ slots. let most = count_most is_some slots in let is = newest_length number_of slots in omega (arith, most, is);
  full = λ slots each. newest_length number_of slots ∙ count_all slots each;
}
