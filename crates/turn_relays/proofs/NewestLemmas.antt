-- The items in slots, the newest first: the list changes as its slots do.
use Rattle.std.proofs.Common.{◌≡◌, ℕ, ◌+◌, ◌<◌, ◌≤◌, zero, suc, Bool, true, false, cond, List, [], ◌∷◌, map, filter, find, length, Option, None, Some, get_or, set, refl, sym, ap, ◌∙◌, subst, ltb-true, ltb-false, arith}
use Rattle.std.specs.List.{AllByRecursion}
use Rattle.std.specs.Option.{option_map}
use Rattle.std.specs.Prelude.{nat_lt, is_some, count_by}
use Rattle.std.proofs.lemmas.Bool.{cond_both, cond-true, cond-false, lt-ltb, le-ltb}
use Rattle.std.proofs.lemmas.List.Sums.{sum_by-cons}
use Rattle.turn_relays.specs.Newest.{put, newest_first}

-- ---- Facts about each

pub each_map : {X : Type 0} (P Q : X → Type 0) → ((x : X) → P x → Q x) → (xs : List X) → AllByRecursion P xs → AllByRecursion Q xs
each_map P Q f [] each = tt
each_map P Q f (x ∷ xs) each = (f x each.0, each_map P Q f xs each.1)

abbrev OfSome : {X : Type 0} → (X → Type 0) → Option X → Type 0
OfSome P None = Unit {0}
OfSome P (Some x) = P x

abbrev EachSlot : {X : Type 0} → (X → Type 0) → List (Option X) → Type 0
EachSlot P slots = AllByRecursion (OfSome P) slots

put_each : {X : Type 0} (number : X → ℕ) (P : X → Type 0) (x : X) (ys : List X) → P x → AllByRecursion P ys → AllByRecursion P (put number x ys)
put_each number P x [] here each = (here, tt)
put_each number P x (y ∷ ys) here each =
    cond_both (nat_lt (number x) (number y)) (y ∷ put number x ys) (x ∷ y ∷ ys) (AllByRecursion P)
    (λ _. (each.0, put_each number P x ys here each.1)) (λ _. (here, each))

slots_less : {X : Type 0} (number : X → ℕ) (r : X) (slots : List (Option X)) → EachSlot (λ a. number a < number r) slots → EachSlot (λ a. number a ≤ number r) slots
slots_less number r [] each = tt
slots_less number r (None ∷ slots) each = (tt, slots_less number r slots each.1)
slots_less number r (Some a ∷ slots) each = (omega (arith, each.0), slots_less number r slots each.1)

pub newest_each : {X : Type 0} (number : X → ℕ) (P : X → Type 0) (slots : List (Option X)) → EachSlot P slots → AllByRecursion P (newest_first number slots)
newest_each number P [] each = tt
newest_each number P (None ∷ slots) each = newest_each number P slots each.1
newest_each number P (Some x ∷ slots) each = put_each number P x (newest_first number slots) each.0 (newest_each number P slots each.1)

-- ---- The order

abbrev Descends : {X : Type 0} → (X → ℕ) → List X → Type 0
Descends number [] = Unit {0}
Descends number (y ∷ ys) = AllByRecursion (λ z. number z ≤ number y) ys × Descends number ys

put_descends : {X : Type 0} (number : X → ℕ) (x : X) (ys : List X) → Descends number ys → Descends number (put number x ys)
put_descends number x [] down = (tt, tt)
put_descends number x (y ∷ ys) down =
    cond_both (nat_lt (number x) (number y)) (y ∷ put number x ys) (x ∷ y ∷ ys) (Descends number)
    (λ yes. let less = ltb-true (number x) (number y) yes in
    (put_each number (λ z. number z ≤ number y) x ys (omega (arith, less)) down.0, put_descends number x ys down.1))
    (λ no. let least = ltb-false (number x) (number y) no in
    ((least, each_map (λ z. number z ≤ number y) (λ z. number z ≤ number x) (λ z le. omega (arith, le, least)) ys down.0), down))

newest_descends : {X : Type 0} (number : X → ℕ) (slots : List (Option X)) → Descends number (newest_first number slots)
newest_descends number [] = tt
newest_descends number (None ∷ slots) = newest_descends number slots
newest_descends number (Some x ∷ slots) = put_descends number x (newest_first number slots) (newest_descends number slots)

put_front : {X : Type 0} (number : X → ℕ) (x : X) (ys : List X) → AllByRecursion (λ z. number z ≤ number x) ys → put number x ys ≡ x ∷ ys
put_front number x [] each = refl
put_front number x (y ∷ ys) each = cond-false (nat_lt (number x) (number y)) (y ∷ put number x ys) (x ∷ y ∷ ys) (le-ltb (number x) (number y) each.0)

-- ---- Filtered

each_kept : {X : Type 0} (P : X → Type 0) (test : X → Bool) (xs : List X) → AllByRecursion P xs → AllByRecursion P (filter test xs)
each_kept P test [] each = tt
each_kept P test (x ∷ xs) each =
    let more = each_kept P test xs each.1 in
    cond_both (test x) (x ∷ filter test xs) (filter test xs) (AllByRecursion P) (λ _. (each.0, more)) (λ _. more)

-- y precedes both lists
behind : {X : Type 0} (number : X → ℕ) (x y : X) (zs : List X) (kept : Bool) → nat_lt (number x) (number y) ≡ true → y ∷ cond kept (put number x zs) zs ≡ cond kept (put number x (y ∷ zs)) (y ∷ zs)
behind number x y zs true less = sym (cond-true (nat_lt (number x) (number y)) (y ∷ put number x zs) (x ∷ y ∷ zs) less)
behind number x y zs false less = refl

filter_put : {X : Type 0} (number : X → ℕ) (test : X → Bool) (x : X) (ys : List X) → Descends number ys → filter test (put number x ys) ≡ cond (test x) (put number x (filter test ys)) (filter test ys)
filter_put number test x [] down = refl
filter_put number test x (y ∷ ys) down =
    cond_both (nat_lt (number x) (number y)) (y ∷ put number x ys) (x ∷ y ∷ ys) (λ zs. filter test zs ≡ cond (test x) (put number x (filter test (y ∷ ys))) (filter test (y ∷ ys)))
    (λ less. let more = filter_put number test x ys down.1 in
    cond_both (test y) (y ∷ filter test ys) (filter test ys) (λ zs. cond (test y) (y ∷ filter test (put number x ys)) (filter test (put number x ys)) ≡ cond (test x) (put number x zs) zs)
    (λ in_y. cond-true (test y) (y ∷ filter test (put number x ys)) (filter test (put number x ys)) in_y
    ∙ (ap (λ zs. y ∷ zs) more ∙ behind number x y (filter test ys) (test x) less))
    (λ not_y. cond-false (test y) (y ∷ filter test (put number x ys)) (filter test (put number x ys)) not_y ∙ more))
    (λ least. let le = ltb-false (number x) (number y) least in
    let all : AllByRecursion (λ z. number z ≤ number x) (y ∷ ys) = (le, each_map (λ z. number z ≤ number y) (λ z. number z ≤ number x) (λ z lt. omega (arith, lt, le)) ys down.0) in
    ap (λ zs. cond (test x) zs (filter test (y ∷ ys))) (sym (put_front number x (filter test (y ∷ ys)) (each_kept (λ z. number z ≤ number x) test (y ∷ ys) all))))

abbrev pub kept_if : {X : Type 0} → (X → Bool) → Option X → Option X
kept_if test None = None
kept_if test (Some x) = cond (test x) (Some x) None

newest_kept : {X : Type 0} (number : X → ℕ) (x : X) (slots : List (Option X)) (kept : Bool) → newest_first number (cond kept (Some x) None ∷ slots) ≡ cond kept (put number x (newest_first number slots)) (newest_first number slots)
newest_kept number x slots true = refl
newest_kept number x slots false = refl

pub newest_filter : {X : Type 0} (number : X → ℕ) (test : X → Bool) (slots : List (Option X)) → newest_first number (map (kept_if test) slots) ≡ filter test (newest_first number slots)
newest_filter number test [] = refl
newest_filter number test (None ∷ slots) = newest_filter number test slots
newest_filter number test (Some x ∷ slots) =
    newest_kept number x (map (kept_if test) slots) (test x)
    ∙ (ap (λ zs. cond (test x) (put number x zs) zs) (newest_filter number test slots)
    ∙ sym (filter_put number test x (newest_first number slots) (newest_descends number slots)))

-- ---- Changed

map_cond : {X : Type 0} (f : X → X) (b : Bool) (xs ys : List X) → map f (cond b xs ys) ≡ cond b (map f xs) (map f ys)
map_cond f true xs ys = refl
map_cond f false xs ys = refl

map_put : {X : Type 0} (number : X → ℕ) (f : X → X) → ((x : X) → number (f x) ≡ number x) → (x : X) (ys : List X) → map f (put number x ys) ≡ put number (f x) (map f ys)
map_put number f same x [] = refl
map_put number f same x (y ∷ ys) =
    map_cond f (nat_lt (number x) (number y)) (y ∷ put number x ys) (x ∷ y ∷ ys)
    ∙ (ap (λ zs. cond (nat_lt (number x) (number y)) (f y ∷ zs) (f x ∷ f y ∷ map f ys)) (map_put number f same x ys)
    ∙ (ap (λ n. cond (nat_lt n (number y)) (f y ∷ put number (f x) (map f ys)) (f x ∷ f y ∷ map f ys)) (sym (same x))
    ∙ ap (λ n. cond (nat_lt (number (f x)) n) (f y ∷ put number (f x) (map f ys)) (f x ∷ f y ∷ map f ys)) (sym (same y))))

pub newest_map : {X : Type 0} (number : X → ℕ) (f : X → X) → ((x : X) → number (f x) ≡ number x) → (slots : List (Option X)) → newest_first number (map (option_map f) slots) ≡ map f (newest_first number slots)
newest_map number f same [] = refl
newest_map number f same (None ∷ slots) = newest_map number f same slots
newest_map number f same (Some x ∷ slots) =
    ap (put number (f x)) (newest_map number f same slots) ∙ sym (map_put number f same x (newest_first number slots))

-- ---- Opened

-- an item whose number is above all, in a free slot, is the first of the list
pub newest_opened : {X : Type 0} (number : X → ℕ) (r : X) (slots : List (Option X)) (i : ℕ) → EachSlot (λ a. number a < number r) slots → i < length slots → get_or slots i None ≡ None → newest_first number (set slots i (Some r)) ≡ r ∷ newest_first number slots
newest_opened number r [] i each lt free = absurd (omega (arith, lt))
newest_opened number r (None ∷ slots) zero each lt free =
    put_front number r (newest_first number slots) (newest_each number (λ a. number a ≤ number r) slots (slots_less number r slots each.1))
newest_opened number r (Some a ∷ slots) zero each lt free = absurd cc
newest_opened number r (None ∷ slots) (suc i) each lt free = newest_opened number r slots i each.1 (omega (arith, lt)) free
newest_opened number r (Some a ∷ slots) (suc i) each lt free =
    ap (put number a) (newest_opened number r slots i each.1 (omega (arith, lt)) free)
    ∙ cond-true (nat_lt (number a) (number r)) (r ∷ put number a (newest_first number slots)) (a ∷ r ∷ newest_first number slots) (lt-ltb (number a) (number r) each.0)

-- ---- A fact about each item

pub each_slot : {X : Type 0} (P : X → Type 0) (slots : List (Option X)) → ((i : ℕ) (a : X) → get_or slots i None ≡ Some a → P a) → EachSlot P slots
each_slot P [] each = tt
each_slot P (None ∷ slots) each = (tt, each_slot P slots (λ i a at. each (suc i) a at))
each_slot P (Some x ∷ slots) each = (each 0 x refl, each_slot P slots (λ i a at. each (suc i) a at))

some_is : {X : Type 0} (x r : X) → Some x ≡ Some r → x ≡ r
some_is x r is = cc

not_yes : (b : Bool) → (b ≡ true → ⊥) → b ≡ false
not_yes true isnt = absurd (isnt refl)
not_yes false isnt = refl

-- ---- Found

find_put_other : {X : Type 0} (number : X → ℕ) (test : X → Bool) (x : X) (ys : List X) → test x ≡ false → find test (put number x ys) ≡ find test ys
find_put_other number test x [] isnt = cond-false (test x) (Some x) None isnt
find_put_other {X = X} number test x (y ∷ ys) isnt =
    cond_both (nat_lt (number x) (number y)) (y ∷ put number x ys) (x ∷ y ∷ ys) (λ zs. find test zs ≡ find test (y ∷ ys))
    (λ _. ap (λ (o : Option X). cond (test y) (Some y) o) (find_put_other number test x ys isnt))
    (λ _. cond-false (test x) (Some x) (find test (y ∷ ys)) isnt)

find_put_this : {X : Type 0} (number : X → ℕ) (test : X → Bool) (x : X) (ys : List X) → test x ≡ true → AllByRecursion (λ y. test y ≡ false) ys → find test (put number x ys) ≡ Some x
find_put_this number test x [] is_so each = cond-true (test x) (Some x) None is_so
find_put_this number test x (y ∷ ys) is_so each =
    cond_both (nat_lt (number x) (number y)) (y ∷ put number x ys) (x ∷ y ∷ ys) (λ zs. find test zs ≡ Some x)
    (λ _. cond-false (test y) (Some y) (find test (put number x ys)) each.0 ∙ find_put_this number test x ys is_so each.1)
    (λ _. cond-true (test x) (Some x) (find test (y ∷ ys)) is_so)

-- the only item that passes is found
pub newest_found : {X : Type 0} (number : X → ℕ) (test : X → Bool) (slots : List (Option X)) (i : ℕ) (r : X) → get_or slots i None ≡ Some r → test r ≡ true
    → ((j : ℕ) (a : X) → get_or slots j None ≡ Some a → test a ≡ true → j ≡ i) → find test (newest_first number slots) ≡ Some r
newest_found number test [] i r at is_so only = absurd cc
newest_found number test (None ∷ slots) zero r at is_so only = absurd cc
newest_found number test (None ∷ slots) (suc i) r at is_so only =
    newest_found number test slots i r at is_so (λ j a at_j yes_j. let same = only (suc j) a at_j yes_j in omega (arith, same))
newest_found number test (Some x ∷ slots) zero r at is_so only =
    let is = some_is x r at in
    find_put_this number test x (newest_first number slots) (subst (λ z. test z ≡ true) (sym is) is_so)
    (newest_each number (λ y. test y ≡ false) slots (each_slot (λ y. test y ≡ false) slots (λ j a at_j. not_yes (test a) (λ yes_j. let same = only (suc j) a at_j yes_j in absurd (omega (arith, same))))))
    ∙ ap Some is
newest_found number test (Some x ∷ slots) (suc i) r at is_so only =
    find_put_other number test x (newest_first number slots) (not_yes (test x) (λ yes_x. let same = only 0 x refl yes_x in absurd (omega (arith, same))))
    ∙ newest_found number test slots i r at is_so (λ j a at_j yes_j. let same = only (suc j) a at_j yes_j in omega (arith, same))

-- ---- Counted

count_cond : {X : Type 0} (test : X → Bool) (b : Bool) (xs ys : List X) (n : ℕ) → count_by test xs ≡ n → count_by test ys ≡ n → count_by test (cond b xs ys) ≡ n
count_cond test true xs ys n one other = one
count_cond test false xs ys n one other = other

count_put : {X : Type 0} (number : X → ℕ) (test : X → Bool) (x : X) (ys : List X) → count_by test (put number x ys) ≡ cond (test x) 1 0 + count_by test ys
count_put number test x [] = sum_by-cons (λ y. cond (test y) 1 0) x []
count_put number test x (y ∷ ys) =
    let more = count_put number test x ys in
    let here = sum_by-cons (λ z. cond (test z) 1 0) y (put number x ys) in
    let there = sum_by-cons (λ z. cond (test z) 1 0) y ys in
    count_cond test (nat_lt (number x) (number y)) (y ∷ put number x ys) (x ∷ y ∷ ys) (cond (test x) 1 0 + count_by test (y ∷ ys))
    (omega (arith, more, here, there)) (sum_by-cons (λ z. cond (test z) 1 0) x (y ∷ ys))

abbrev pub passes : {X : Type 0} → (X → Bool) → Option X → Bool
passes test None = false
passes test (Some x) = test x

pub newest_count : {X : Type 0} (number : X → ℕ) (test : X → Bool) (slots : List (Option X)) → count_by test (newest_first number slots) ≡ count_by (passes test) slots
newest_count number test [] = refl
newest_count number test (None ∷ slots) =
    let more = newest_count number test slots in
    let here = sum_by-cons (λ o. cond (passes test o) 1 0) None slots in
    omega (arith, more, here)
newest_count number test (Some x ∷ slots) =
    let more = newest_count number test slots in
    let here = sum_by-cons (λ o. cond (passes test o) 1 0) (Some x) slots in
    let there = count_put number test x (newest_first number slots) in
    omega (arith, more, here, there)

-- ---- A slot is set

set_same : {X : Type 0} (f : Option X → Option X) (slots : List (Option X)) → f None ≡ None → ((j : ℕ) (a : X) → get_or slots j None ≡ Some a → f (Some a) ≡ Some a) → map f slots ≡ slots
set_same f [] none same = refl
set_same f (None ∷ slots) none same = λ i. none i ∷ set_same f slots none (λ j a at. same (suc j) a at) i
set_same f (Some x ∷ slots) none same = λ i. same 0 x refl i ∷ set_same f slots none (λ j a at. same (suc j) a at) i

-- as each slot would be by a change that leaves the others
pub set_one : {X : Type 0} (f : Option X → Option X) (slots : List (Option X)) (i : ℕ) (r : X) → f None ≡ None → get_or slots i None ≡ Some r
    → ((j : ℕ) (a : X) → (j ≡ i → ⊥) → get_or slots j None ≡ Some a → f (Some a) ≡ Some a) → set slots i (f (Some r)) ≡ map f slots
set_one f [] i r none at same = absurd cc
set_one f (None ∷ slots) zero r none at same = absurd cc
set_one f (None ∷ slots) (suc i) r none at same =
    let back : None ≡ f None = sym none in
    λ k. back k ∷ set_one f slots i r none at (λ j a other at_j. same (suc j) a (λ e. other (omega (arith, e))) at_j) k
set_one f (Some x ∷ slots) zero r none at same =
    let back : r ≡ x = sym (some_is x r at) in
    let rest : slots ≡ map f slots = sym (set_same f slots none (λ j a at_j. same (suc j) a (λ e. absurd (omega (arith, e))) at_j)) in
    λ k. f (Some (back k)) ∷ rest k
set_one f (Some x ∷ slots) (suc i) r none at same =
    let back : Some x ≡ f (Some x) = sym (same 0 x (λ e. absurd (omega (arith, e))) refl) in
    λ k. back k ∷ set_one f slots i r none at (λ j a other at_j. same (suc j) a (λ e. other (omega (arith, e))) at_j) k

length_cond : {X : Type 0} (b : Bool) (xs ys : List X) (n : ℕ) → length xs ≡ n → length ys ≡ n → length (cond b xs ys) ≡ n
length_cond true xs ys n one other = one
length_cond false xs ys n one other = other

length_put : {X : Type 0} (number : X → ℕ) (x : X) (ys : List X) → length (put number x ys) ≡ suc (length ys)
length_put number x [] = refl
length_put number x (y ∷ ys) =
    length_cond (nat_lt (number x) (number y)) (y ∷ put number x ys) (x ∷ y ∷ ys) (suc (suc (length ys))) (ap suc (length_put number x ys)) refl

pub newest_length : {X : Type 0} (number : X → ℕ) (slots : List (Option X)) → length (newest_first number slots) ≡ count_by is_some slots
newest_length number [] = refl
newest_length number (None ∷ slots) =
    let more = newest_length number slots in
    let here = sum_by-cons (λ o. cond (is_some o) 1 0) None slots in
    omega (arith, more, here)
newest_length number (Some x ∷ slots) =
    let more = newest_length number slots in
    let here = sum_by-cons (λ o. cond (is_some o) 1 0) (Some x) slots in
    let there = length_put number x (newest_first number slots) in
    omega (arith, more, here, there)
