-- Lists: what holds of each element, of some, and of the first.
use Rattle.std.proofs.Common.{◌≡◌, ℕ, ◌+◌, ◌≤◌, suc, inl, inr, Bool, true, false, not, ◌||◌, cond, List, [], ◌∷◌, ◌++◌, map, filter, length, Option, None, Some, refl, sym, ap, ◌∙◌, subst, find, zero-le, arith}
use Rattle.std.specs.List.{AllByRecursion, list_any, list_all}
use Rattle.std.specs.Prelude.{count_by, ◌&&◌, ◌⊎◌}
use Rattle.std.proofs.lemmas.Bool.{cond_both, cond-true, cond-false, and_parts, or_left, or_right, or_cases, or_parts, false≢true}
use Rattle.std.proofs.lemmas.List.Sums.{length-filter, sum_by-cons}
use Rattle.turn_machine.specs.Lists.{SomeOf, SomeSince}

pub each_map : {X : Type 0} (P Q : X → Type 0) → ((x : X) → P x → Q x) → (xs : List X) → AllByRecursion P xs → AllByRecursion Q xs
each_map P Q f [] each = each
each_map P Q f (x ∷ xs) each = (f x each.0, each_map P Q f xs each.1)

pub each_both : {X : Type 0} (P Q R : X → Type 0) → ((x : X) → P x → Q x → R x) → (xs : List X) → AllByRecursion P xs → AllByRecursion Q xs → AllByRecursion R xs
each_both P Q R f [] one other = one
each_both P Q R f (x ∷ xs) one other = (f x one.0 other.0, each_both P Q R f xs one.1 other.1)

pub each_always : {X : Type 0} (P : X → Type 0) → ((x : X) → P x) → (xs : List X) → AllByRecursion P xs
each_always P f [] = tt
each_always P f (x ∷ xs) = (f x, each_always P f xs)

-- of a filtered list, what passes is so
pub each_filtered : {X : Type 0} (P Q : X → Type 0) (test : X → Bool) → ((x : X) → test x ≡ true → P x → Q x) → (xs : List X) → AllByRecursion P xs → AllByRecursion Q (filter test xs)
each_filtered P Q test f [] each = tt
each_filtered P Q test f (x ∷ xs) each =
    let more = each_filtered P Q test f xs each.1 in
    cond_both (test x) (x ∷ filter test xs) (filter test xs) (AllByRecursion Q) (λ yes. (f x yes each.0, more)) (λ _. more)

pub each_filter : {X : Type 0} (P : X → Type 0) (test : X → Bool) (xs : List X) → AllByRecursion P xs → AllByRecursion P (filter test xs)
each_filter P test xs each = each_filtered P P test (λ _ _ p. p) xs each

pub each_mapped : {X Y : Type 0} (P : X → Type 0) (Q : Y → Type 0) (change : X → Y) → ((x : X) → P x → Q (change x)) → (xs : List X) → AllByRecursion P xs → AllByRecursion Q (map change xs)
each_mapped P Q change f [] each = tt
each_mapped P Q change f (x ∷ xs) each = (f x each.0, each_mapped P Q change f xs each.1)

-- what holds of the first that passes, if one does
pub found : {X : Type 0} (P : X → Type 0) (test : X → Bool) (Q : Option X → Type 0) → Q None → (xs : List X) → ((x : X) → test x ≡ true → P x → Q (Some x)) → AllByRecursion P xs → Q (find test xs)
found P test Q none [] here each = none
found P test Q none (x ∷ xs) here each =
    cond_both (test x) (Some x) (find test xs) Q (λ yes. here x yes each.0) (λ no. found P test Q none xs here each.1)

pub find_true : {X : Type 0} (test : X → Bool) (xs : List X) (a : X) → find test xs ≡ Some a → test a ≡ true
find_true test [] a is = absurd cc
find_true test (x ∷ xs) a is =
    cond_both (test x) (Some x) (find test xs) (λ o. o ≡ Some a → test a ≡ true)
    (λ so e. let same : x ≡ a = cc in subst (λ y. test y ≡ true) same so)
    (λ other_way e. find_true test xs a e) is

-- ---- Tests of lists, in words

pub none_any : {X : Type 0} (test : X → Bool) (xs : List X) → AllByRecursion (λ x. test x ≡ false) xs → list_any test xs ≡ false
none_any test [] each = refl
none_any test (x ∷ xs) each = subst (λ b. (b || list_any test xs) ≡ false) (sym each.0) (none_any test xs each.1)

pub any_none : {X : Type 0} (test : X → Bool) (xs : List X) → list_any test xs ≡ false → AllByRecursion (λ x. test x ≡ false) xs
any_none test [] none = tt
any_none test (x ∷ xs) none = let parts = or_parts (test x) (list_any test xs) none in (parts.0, any_none test xs parts.1)

pub some_any : {X : Type 0} (test : X → Bool) (xs : List X) → SomeOf (λ x. test x ≡ true) xs → list_any test xs ≡ true
some_any test [] some = absurd some
some_any test (x ∷ xs) (inl is) = or_left (test x) (list_any test xs) is
some_any test (x ∷ xs) (inr more) = or_right (test x) (list_any test xs) (some_any test xs more)

pub any_some : {X : Type 0} (test : X → Bool) (xs : List X) → list_any test xs ≡ true → SomeOf (λ x. test x ≡ true) xs
any_some test [] any = absurd (false≢true any)
any_some test (x ∷ xs) any = elim (or_cases (test x) (list_any test xs) any) [
  | inl first ↦ inl first
  | inr more ↦ inr (any_some test xs more)
]

pub any_filter : {X : Type 0} (test keep : X → Bool) (xs : List X) → list_any test (filter keep xs) ≡ true → list_any test xs ≡ true
any_filter test keep [] any = any
any_filter test keep (x ∷ xs) any =
    cond_both (keep x) (x ∷ filter keep xs) (filter keep xs) (λ l. list_any test l ≡ true → list_any test (x ∷ xs) ≡ true)
    (λ _ e. elim (or_cases (test x) (list_any test (filter keep xs)) e) [
      | inl is ↦ or_left (test x) (list_any test xs) is
      | inr more ↦ or_right (test x) (list_any test xs) (any_filter test keep xs more)
    ]) (λ _ e. or_right (test x) (list_any test xs) (any_filter test keep xs e)) any

pub some_map : {X : Type 0} (P Q : X → Type 0) → ((x : X) → P x → Q x) → (xs : List X) → SomeOf P xs → SomeOf Q xs
some_map P Q f [] some = absurd some
some_map P Q f (x ∷ xs) (inl is) = inl (f x is)
some_map P Q f (x ∷ xs) (inr more) = inr (some_map P Q f xs more)

-- each is so, and some is so too: one is both
pub some_both : {X : Type 0} (P Q R : X → Type 0) → ((x : X) → P x → Q x → R x) → (xs : List X) → AllByRecursion P xs → SomeOf Q xs → SomeOf R xs
some_both P Q R f [] each some = absurd some
some_both P Q R f (x ∷ xs) each (inl is) = inl (f x each.0 is)
some_both P Q R f (x ∷ xs) each (inr more) = inr (some_both P Q R f xs each.1 more)

-- each is so, and one was so with all since like that: that one is both
pub since_both : {X : Type 0} (P Q R S : X → Type 0) → ((x : X) → P x → Q x → R x) → (xs : List X) → AllByRecursion P xs → SomeSince Q S xs → SomeSince R S xs
since_both P Q R S f [] each some = absurd some
since_both P Q R S f (x ∷ xs) each (inl is) = inl (f x each.0 is)
since_both P Q R S f (x ∷ xs) each (inr more) = inr (more.0, since_both P Q R S f xs each.1 more.1)

pub all_each : {X : Type 0} (test : X → Bool) (xs : List X) → list_all test xs ≡ true → AllByRecursion (λ x. test x ≡ true) xs
all_each test [] all = tt
all_each test (x ∷ xs) all = let both = and_parts (test x) (list_all test xs) all in (both.0, all_each test xs both.1)

pub each_all : {X : Type 0} (test : X → Bool) (xs : List X) → AllByRecursion (λ x. test x ≡ true) xs → list_all test xs ≡ true
each_all test [] each = refl
each_all test (x ∷ xs) each = subst (λ b. (b && list_all test xs) ≡ true) (sym each.0) (each_all test xs each.1)

pub left_false : (x y : Bool) → x ≡ false → (x && y) ≡ false
left_false false y other_way = refl
left_false true y other_way = absurd cc

pub right_false : (x y : Bool) → y ≡ false → (x && y) ≡ false
right_false false y is = refl
right_false true y is = is

pub some_not_all : {X : Type 0} (test : X → Bool) (xs : List X) → SomeOf (λ x. test x ≡ false) xs → list_all test xs ≡ false
some_not_all test [] some = absurd some
some_not_all test (x ∷ xs) (inl is) = left_false (test x) (list_all test xs) is
some_not_all test (x ∷ xs) (inr more) = right_false (test x) (list_all test xs) (some_not_all test xs more)

pub either_false : (x y : Bool) → (x && y) ≡ false → (x ≡ false) ⊎ (y ≡ false)
either_false false y is = inl refl
either_false true y is = inr is

pub not_all_some : {X : Type 0} (test : X → Bool) (xs : List X) → list_all test xs ≡ false → SomeOf (λ x. test x ≡ false) xs
not_all_some test [] none = absurd (false≢true (sym none))
not_all_some test (x ∷ xs) none = elim (either_false (test x) (list_all test xs) none) [
  | inl first ↦ inl first
  | inr more ↦ inr (not_all_some test xs more)
]

-- ---- Counts

by_bool : {X : Type 0} (b : Bool) (f : List X → ℕ) (x : X) (ys zs : List X) (here all : ℕ) → f (x ∷ ys) ≡ here + f ys → f (x ∷ zs) ≡ here + f zs → f ys + f zs ≡ all → f (cond b (x ∷ ys) ys) + f (cond (not b) (x ∷ zs) zs) ≡ here + all
by_bool true f x ys zs here all one other sum = omega (arith, one, sum)
by_bool false f x ys zs here all one other sum = omega (arith, other, sum)

pub length_filter : {X : Type 0} (p : X → Bool) (xs : List X) → length (filter p xs) ≤ length xs
length_filter p [] = zero-le
length_filter p (x ∷ xs) =
    let more = length_filter p xs in
    cond_both (p x) (x ∷ filter p xs) (filter p xs) (λ ys. length ys ≤ suc (length xs)) (λ _. omega (arith, more)) (λ _. omega (arith, more))

pub length_map : {X Y : Type 0} (f : X → Y) (xs : List X) → length (map f xs) ≡ length xs
length_map f [] = refl
length_map f (x ∷ xs) = ap suc (length_map f xs)

pub count_cons : {X : Type 0} (p : X → Bool) (x : X) (xs : List X) → count_by p (x ∷ xs) ≡ cond (p x) 1 0 + count_by p xs
count_cons p x xs = sum_by-cons (λ y. cond (p y) 1 0) x xs

-- none passes, so none is counted
pub count_none : {X : Type 0} (test : X → Bool) (xs : List X) → list_any test xs ≡ false → count_by test xs ≡ 0
count_none test [] none = refl
count_none test (x ∷ xs) none =
    let parts = or_parts (test x) (list_any test xs) none in
    count_cons test x xs ∙ (ap (λ (b : Bool). cond b 1 0 + count_by test xs) parts.0 ∙ (let more = count_none test xs parts.1 in omega (arith, more)))

pub count_map : {X Y : Type 0} (test : Y → Bool) (other : X → Bool) (change : X → Y) → ((x : X) → test (change x) ≡ other x) → (xs : List X) → count_by test (map change xs) ≡ count_by other xs
count_map test other change same [] = refl
count_map test other change same (x ∷ xs) =
    count_cons test (change x) (map change xs)
    ∙ (ap (λ b. cond b 1 0 + count_by test (map change xs)) (same x)
    ∙ (ap (λ n. cond (other x) 1 0 + n) (count_map test other change same xs) ∙ sym (count_cons other x xs)))

pub count_append : {X : Type 0} (p : X → Bool) (xs ys : List X) → count_by p (xs ++ ys) ≡ count_by p xs + count_by p ys
count_append p [] ys = omega arith
count_append p (x ∷ xs) ys =
    let more = count_append p xs ys in
    let total = count_cons p x (xs ++ ys) in
    let one = count_cons p x xs in
    omega (arith, more, total, one)

-- what passes a test, and what doesn't
pub count_parts : {X : Type 0} (p test : X → Bool) (xs : List X) → count_by p (filter test xs) + count_by p (filter (λ x. not (test x)) xs) ≡ count_by p xs
count_parts p test [] = refl
count_parts p test (x ∷ xs) =
    let more = count_parts p test xs in
    let total = count_cons p x xs in
    let one = count_cons p x (filter test xs) in
    let other = count_cons p x (filter (λ y. not (test y)) xs) in
    by_bool (test x) (count_by p) x (filter test xs) (filter (λ y. not (test y)) xs) (cond (p x) 1 0) (count_by p xs) one other more ∙ sym total

pub filter_swap : {X : Type 0} (p q : X → Bool) (xs : List X) → filter p (filter q xs) ≡ filter q (filter p xs)
filter_swap p q [] = refl
filter_swap p q (x ∷ xs) =
    let more = filter_swap p q xs in
    cond_both (q x) (x ∷ filter q xs) (filter q xs) (λ ys. filter p ys ≡ filter q (filter p (x ∷ xs)))
    (λ in_q. cond_both (p x) (x ∷ filter p xs) (filter p xs) (λ ys. filter p (x ∷ filter q xs) ≡ filter q ys)
    (λ in_p. cond-true (p x) (x ∷ filter p (filter q xs)) (filter p (filter q xs)) in_p ∙ (ap (λ ys. x ∷ ys) more ∙ sym (cond-true (q x) (x ∷ filter q (filter p xs)) (filter q (filter p xs)) in_q)))
    (λ not_p. cond-false (p x) (x ∷ filter p (filter q xs)) (filter p (filter q xs)) not_p ∙ more))
    (λ not_q. cond_both (p x) (x ∷ filter p xs) (filter p xs) (λ ys. filter p (filter q xs) ≡ filter q ys)
    (λ in_p. more ∙ sym (cond-false (q x) (x ∷ filter q (filter p xs)) (filter q (filter p xs)) not_q))
    (λ not_p. more))

pub count_filter : {X : Type 0} (test p : X → Bool) (xs : List X) → count_by test (filter p xs) ≤ count_by test xs
count_filter test p xs =
    let one = length-filter test (filter p xs) in
    let all = length-filter test xs in
    let swapped = ap length (filter_swap test p xs) in
    let fewer = length_filter p (filter test xs) in
    omega (arith, one, all, swapped, fewer)
