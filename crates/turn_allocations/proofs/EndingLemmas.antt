-- Relayed addresses end one by one: what is left, and how often each number is among those that ended.
use Rattle.std.proofs.Common.{◌≡◌, ℕ, ◌+◌, Bool, true, false, not, cond, List, [], ◌∷◌, ◌++◌, filter, Option, None, set, refl, sym, ap, ◌∙◌, arith}
use Rattle.std.specs.List.{AllByRecursion}
use Rattle.std.specs.Prelude.{◌&&◌, ◌==◌, count_by}
use Rattle.std.proofs.lemmas.Bool.{cond_both, cond-true, cond-false, false_from_ne_true, not_from_true, not_from_false}
use Rattle.std.proofs.lemmas.List.Sums.{sum_by-cons}
use Rattle.turn_machine.specs.Relays.{Relay}
use Rattle.turn_machine.specs.Lists.{times}
use Rattle.turn_machine.specs.Times.{numbers}
use Rattle.turn_relays.specs.Following.{listed, EachOf, ListFollowsSlots}
use Rattle.turn_relays.specs.Listing.{HasAt, ListHasSlots}

-- ---- Counts

count_cons : {X : Type 0} (p : X → Bool) (x : X) (xs : List X) → count_by p (x ∷ xs) ≡ cond (p x) 1 0 + count_by p xs
count_cons p x xs = sum_by-cons (λ y. cond (p y) 1 0) x xs

pub times_append : (n : ℕ) (xs ys : List ℕ) → times n (xs ++ ys) ≡ times n xs + times n ys
times_append n [] ys = omega arith
times_append n (x ∷ xs) ys =
    let more = times_append n xs ys in
    let here = count_cons (λ m. m == n) x (xs ++ ys) in
    let there = count_cons (λ m. m == n) x xs in
    omega (arith, more, here, there)

abbrev of_number : (Relay → Bool) → ℕ → Relay → Bool
of_number p n a = p a && (a.number == n)

times_kept : (p : Relay → Bool) (n : ℕ) (rs : List Relay) → times n (numbers (filter p rs)) ≡ count_by (of_number p n) rs
times_kept p n [] = refl
times_kept p n (a ∷ rs) =
    let more = times_kept p n rs in
    let there = count_cons (of_number p n) a rs in
    cond_both (p a) (a ∷ filter p rs) (filter p rs) (λ bs. times n (numbers bs) ≡ count_by (of_number p n) (a ∷ rs))
    (λ yes_p. count_cons (λ m. m == n) a.number (numbers (filter p rs))
    ∙ (ap (λ (k : ℕ). cond (a.number == n) 1 0 + k) more
    ∙ sym (there ∙ ap (λ (b : Bool). cond (b && (a.number == n)) 1 0 + count_by (of_number p n) rs) yes_p)))
    (λ no_p. let all = there ∙ ap (λ (b : Bool). cond (b && (a.number == n)) 1 0 + count_by (of_number p n) rs) no_p in omega (arith, more, all))

-- ---- Some of those that end

-- each that passes q passes p
abbrev pub Among : (p q : Relay → Bool) → List Relay → Type 0
Among p q rs = AllByRecursion (λ a. q a ≡ true → p a ≡ true) rs

filter_twice : (p q : Relay → Bool) (rs : List Relay) → Among p q rs → filter (λ a. not (p a)) (filter (λ a. not (q a)) rs) ≡ filter (λ a. not (p a)) rs
filter_twice p q [] among = refl
filter_twice p q (a ∷ rs) among =
    let more = filter_twice p q rs among.1 in
    by_cases (p a) (q a) among.0 refl refl more
  where
    by_cases : (b c : Bool) → (c ≡ true → b ≡ true) → p a ≡ b → q a ≡ c → filter (λ x. not (p x)) (filter (λ x. not (q x)) rs) ≡ filter (λ x. not (p x)) rs
        → filter (λ x. not (p x)) (cond (not (q a)) (a ∷ filter (λ x. not (q x)) rs) (filter (λ x. not (q x)) rs)) ≡ cond (not (p a)) (a ∷ filter (λ x. not (p x)) rs) (filter (λ x. not (p x)) rs)
    by_cases true true both is_p is_q more =
        ap (λ (c : Bool). filter (λ x. not (p x)) (cond (not c) (a ∷ filter (λ x. not (q x)) rs) (filter (λ x. not (q x)) rs))) is_q
        ∙ (more ∙ sym (ap (λ (b : Bool). cond (not b) (a ∷ filter (λ x. not (p x)) rs) (filter (λ x. not (p x)) rs)) is_p))
    by_cases true false both is_p is_q more =
        ap (λ (c : Bool). filter (λ x. not (p x)) (cond (not c) (a ∷ filter (λ x. not (q x)) rs) (filter (λ x. not (q x)) rs))) is_q
        ∙ (ap (λ (b : Bool). cond (not b) (a ∷ filter (λ x. not (p x)) (filter (λ x. not (q x)) rs)) (filter (λ x. not (p x)) (filter (λ x. not (q x)) rs))) is_p
        ∙ (more ∙ sym (ap (λ (b : Bool). cond (not b) (a ∷ filter (λ x. not (p x)) rs) (filter (λ x. not (p x)) rs)) is_p)))
    by_cases false true both is_p is_q more = absurd (let no = both refl in cc)
    by_cases false false both is_p is_q more =
        ap (λ (c : Bool). filter (λ x. not (p x)) (cond (not c) (a ∷ filter (λ x. not (q x)) rs) (filter (λ x. not (q x)) rs))) is_q
        ∙ (ap (λ (b : Bool). cond (not b) (a ∷ filter (λ x. not (p x)) (filter (λ x. not (q x)) rs)) (filter (λ x. not (p x)) (filter (λ x. not (q x)) rs))) is_p
        ∙ (ap (λ (bs : List Relay). a ∷ bs) more ∙ sym (ap (λ (b : Bool). cond (not b) (a ∷ filter (λ x. not (p x)) rs) (filter (λ x. not (p x)) rs)) is_p)))

abbrev pub left_of : (q : Relay → Bool) → List Relay → List Relay
left_of q rs = filter (λ a. not (q a)) rs

count_left : (p q : Relay → Bool) (n : ℕ) (rs : List Relay) → count_by (of_number p n) (left_of q rs) ≡ count_by (λ a. not (q a) && of_number p n a) rs
count_left p q n [] = refl
count_left p q n (a ∷ rs) =
    let more = count_left p q n rs in
    let there = count_cons (λ x. not (q x) && of_number p n x) a rs in
    cond_both (not (q a)) (a ∷ left_of q rs) (left_of q rs) (λ bs. count_by (of_number p n) bs ≡ count_by (λ x. not (q x) && of_number p n x) (a ∷ rs))
    (λ is. count_cons (of_number p n) a (left_of q rs)
    ∙ (ap (λ (k : ℕ). cond (of_number p n a) 1 0 + k) more
    ∙ sym (there ∙ ap (λ (b : Bool). cond (b && of_number p n a) 1 0 + count_by (λ x. not (q x) && of_number p n x) rs) is)))
    (λ isnt. let all = there ∙ ap (λ (b : Bool). cond (b && of_number p n a) 1 0 + count_by (λ x. not (q x) && of_number p n x) rs) isnt in omega (arith, more, all))

split_count : (p q n : Bool) (ps qs ls : ℕ) → (q ≡ true → p ≡ true) → ps ≡ qs + ls → cond (p && n) 1 0 + ps ≡ (cond (q && n) 1 0 + qs) + (cond (not q && (p && n)) 1 0 + ls)
split_count true true true ps qs ls among is = omega (arith, is)
split_count true true false ps qs ls among is = omega (arith, is)
split_count true false true ps qs ls among is = omega (arith, is)
split_count true false false ps qs ls among is = omega (arith, is)
split_count false true n ps qs ls among is = absurd (let no = among refl in cc)
split_count false false true ps qs ls among is = omega (arith, is)
split_count false false false ps qs ls among is = omega (arith, is)

counts_split : (p q : Relay → Bool) (n : ℕ) (rs : List Relay) → Among p q rs → count_by (of_number p n) rs ≡ count_by (of_number q n) rs + count_by (λ a. not (q a) && of_number p n a) rs
counts_split p q n [] among = refl
counts_split p q n (a ∷ rs) among =
    let more = counts_split p q n rs among.1 in
    let all = count_cons (of_number p n) a rs in
    let some = count_cons (of_number q n) a rs in
    let rest = count_cons (λ x. not (q x) && of_number p n x) a rs in
    let here = split_count (p a) (q a) (a.number == n) (count_by (of_number p n) rs) (count_by (of_number q n) rs) (count_by (λ x. not (q x) && of_number p n x) rs) among.0 more in
    all ∙ (here ∙ sum_is (count_by (of_number q n) (a ∷ rs)) (cond (q a && (a.number == n)) 1 0 + count_by (of_number q n) rs) (count_by (λ x. not (q x) && of_number p n x) (a ∷ rs)) (cond (not (q a) && (p a && (a.number == n))) 1 0 + count_by (λ x. not (q x) && of_number p n x) rs) some rest)
  where
    sum_is : (a b c d : ℕ) → a ≡ b → c ≡ d → b + d ≡ a + c
    sum_is a b c d one other = omega (arith, one, other)

-- when those that pass q end, of those that pass p
pub record EndsSome (p q : Relay → Bool) (rs : List Relay) : Type 0 where
  pub left : filter (λ a. not (p a)) (left_of q rs) ≡ filter (λ a. not (p a)) rs
  pub counts : (n : ℕ) → times n (numbers (filter p rs)) ≡ times n (numbers (filter q rs)) + times n (numbers (filter p (left_of q rs)))

pub ends_some : (p q : Relay → Bool) (rs : List Relay) → Among p q rs → EndsSome p q rs
ends_some p q rs among = record {
  left = filter_twice p q rs among;
  counts = λ n.
      let all = times_kept p n rs in
      let some = times_kept q n rs in
      let rest = times_kept p n (left_of q rs) ∙ count_left p q n rs in
      let split = counts_split p q n rs among in
      omega (arith, all, some, rest, split);
}

-- none passes: all are left
pub none_ends : (p : Relay → Bool) (rs : List Relay) → AllByRecursion (λ a. p a ≡ false) rs → (filter (λ a. not (p a)) rs ≡ rs) × (filter p rs ≡ [])
none_ends p [] each = (refl, refl)
none_ends p (a ∷ rs) each =
    let more = none_ends p rs each.1 in (
      cond-true (not (p a)) (a ∷ filter (λ x. not (p x)) rs) (filter (λ x. not (p x)) rs) (not_from_false (p a) each.0) ∙ ap (λ (bs : List Relay). a ∷ bs) more.0,
      cond-false (p a) (a ∷ filter p rs) (filter p rs) each.0 ∙ more.1,
    )

-- ---- One slot's ends

pub record EndsOne (slots : List (Option Relay)) (test : Relay → Bool) (slot : ℕ) (r : Relay) : Type 0 where
  pub left : listed (set slots slot None) ≡ filter (λ a. not (test a)) (listed slots)
  pub closes : numbers (filter test (listed slots)) ≡ r.number ∷ []

pub ends_one : ListFollowsSlots → ListHasSlots → (slots : List (Option Relay)) (test : Relay → Bool) (slot : ℕ) (r : Relay) → HasAt slots slot r → test r ≡ true
    → EachOf slots (λ at other. test other ≡ true → at ≡ slot) → EndsOne slots test slot r
ends_one follows has slots test slot r there is only = record {
  left = follows.ended slots slot r (λ a. not (test a)) there (not_from_true (test r) is)
      (λ at other at_other away. not_from_false (test other) (false_from_ne_true (test other) (λ yes_it. away (only at other at_other yes_it))));
  closes = ap numbers (has.one slots test slot r there is only);
}
