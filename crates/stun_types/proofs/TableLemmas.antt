-- The value of each number after a number was given one.
use Rattle.std.proofs.Common.{◌≡◌, ℕ, Bool, true, false, cond, nat_lt, List, [], ◌∷◌, ◌++◌, length, Option, Some, None, find, ◌==◌, if◌then◌else◌, refl, ◌∙◌, arith}
use Rattle.std.proofs.Math.ListN.{set}
use Rattle.std.specs.List.{position, position_or_len}
use Rattle.std.specs.Option.{option_or}
use Rattle.std.proofs.lemmas.List.Folds.{find_at, find-set, find_past, find-append}
use Rattle.std.proofs.lemmas.List.Quantifiers.{position-Some}
use Rattle.std.proofs.lemmas.Option.{slice_get_past}
use Rattle.std.proofs.lemmas.Bool.{ltb-false}
use Rattle.stun_types.specs.Table.{value_of, Sets}

-- what a choice says of its test
test_at : (c : Bool) (n i : ℕ) → cond c (Some n) None ≡ Some i → i ≡ n
test_at true n i found = cc
test_at false n i found = cc

test_none : (c : Bool) (n : ℕ) → cond c (Some n) None ≡ None → c ≡ false
test_none true n none = cc
test_none false n none = refl

-- a place that was found is the first one
is_first : {X : Type 0} (p : X → Bool) (xs : List X) (i : ℕ) → position p xs ≡ Some i → i ≡ position_or_len p xs
is_first p xs i found = test_at (nat_lt (position_or_len p xs) (length xs)) _ _ found

-- if there is no place, there is no element
finds_none : {X : Type 0} (p : X → Bool) (xs : List X) → position p xs ≡ None → find p xs ≡ None
finds_none p xs none = find_at p xs ∙ slice_get_past xs (position_or_len p xs) (ltb-false _ _ (test_none _ _ none))

-- a number that has no place has no value
pub no_value : {V : Type 0} (xs : List (ℕ × V)) (number : ℕ) → position (λ entry. entry.0 == number) xs ≡ None → value_of xs number ≡ None
no_value xs number none = rw (finds_none _ xs none) refl

same_number : (n : ℕ) → (n == n) ≡ true
same_number n = grind arith

or_none : {X : Type 0} (found : Option X) → option_or found None ≡ found
or_none None = refl
or_none (Some x) = refl

equal : (a b : ℕ) → (a == b) ≡ true → a ≡ b
equal a b same = grind arith

other : (a b c : ℕ) → (a == b) ≡ true → (c == b) ≡ false → (a == c) ≡ false
other a b c same differs = grind arith

in_place_at : {V : Type 0} (xs : List (ℕ × V)) (number i : ℕ) (value : V) (asked : ℕ) → position (λ entry. entry.0 == number) xs ≡ Some i → (b : Bool) → (asked == number) ≡ b → value_of (set xs i (number, value)) asked ≡ (if b then Some value else value_of xs asked)
in_place_at xs number i value asked found true same =
    let there = position-Some (λ entry. entry.0 == number) xs i (number, value) found in
    rw (equal asked number same, find-set (λ entry. entry.0 == number) xs i (number, value) (is_first _ xs i found) there.0 (same_number number)) refl
in_place_at xs number i value asked found false differs =
    let there = position-Some (λ entry. entry.0 == number) xs i (number, value) found in
    rw (find_past (λ entry. entry.0 == asked) xs i (number, value) (number, value) (other _ number asked there.1 differs) (other number number asked (same_number number) differs)) refl

-- a new value instead of the first entry of its number
pub sets_in_place : {V : Type 0} (xs : List (ℕ × V)) (number i : ℕ) (value : V) → position (λ entry. entry.0 == number) xs ≡ Some i → Sets number value (value_of xs) (value_of (set xs i (number, value)))
sets_in_place xs number i value found asked = in_place_at xs number i value asked found (asked == number) refl

behind_at : {V : Type 0} (xs : List (ℕ × V)) (number : ℕ) (value : V) (asked : ℕ) → position (λ entry. entry.0 == number) xs ≡ None → (b : Bool) → (asked == number) ≡ b → value_of (xs ++ (number, value) ∷ []) asked ≡ (if b then Some value else value_of xs asked)
behind_at xs number value asked none true same =
    rw (equal asked number same, find-append (λ entry. entry.0 == number) xs ((number, value) ∷ []), finds_none (λ entry. entry.0 == number) xs none, same_number number) refl
behind_at xs number value asked none false differs =
    rw (find-append (λ entry. entry.0 == asked) xs ((number, value) ∷ []), other number number asked (same_number number) differs, or_none (find (λ entry. entry.0 == asked) xs)) refl

-- a new entry after entries of other numbers
pub sets_behind : {V : Type 0} (xs : List (ℕ × V)) (number : ℕ) (value : V) → position (λ entry. entry.0 == number) xs ≡ None → Sets number value (value_of xs) (value_of (xs ++ (number, value) ∷ []))
sets_behind xs number value none asked = behind_at xs number value asked none (asked == number) refl
