-- The first element that passes a test, in a list that an array holds in reverse.
use Rattle.std.proofs.Common.{◌≡◌, ℕ, zero, suc, ◌+◌, ◌-◌, ◌<◌, ◌≤◌, Bool, true, false, cond, List, [], ◌∷◌, ◌++◌, length, map, reverse, take, drop, append-nil, take_all, drop_of_length-le, get_or, set, None, Some, refl, sym, ap, ◌∙◌, arith}
use Rattle.std.specs.Prelude.{nat_lt}
use Rattle.std.specs.List.{position, position_or_len}
use Rattle.std.proofs.Math.Seq.{set-append_seam}
use Rattle.std.proofs.lemmas.Bool.{cond-true, cond-false, ltb-false}
use Rattle.std.proofs.lemmas.List.{reverse-append, length-reverse, get_or-reverse, set-append_left}
use Rattle.std.proofs.lemmas.List.Sums.{fails_before_first}
use Rattle.std.proofs.lemmas.List.Quantifiers.{position-Some}
use Rattle.turn_client_machine.specs.Responses.{changed_first}

-- ---- Reversed lists

pub reverse_cons : {X : Type 0} (x : X) (xs : List X) → reverse (x ∷ xs) ≡ reverse xs ++ (x ∷ [])
reverse_cons x xs = reverse-append (x ∷ []) xs

set_end : {X : Type 0} (xs : List X) (x y : X) (n : ℕ) → n ≡ length xs → set (xs ++ (x ∷ [])) n y ≡ xs ++ (y ∷ [])
set_end xs x y n is = ap (λ (k : ℕ). set (xs ++ (x ∷ [])) k y) is ∙ set-append_seam xs x [] y

-- an element that is replaced
pub reverse_set : {X : Type 0} (xs : List X) (i k : ℕ) (y : X) → i + k + 1 ≡ length xs → reverse (set xs i y) ≡ set (reverse xs) k y
reverse_set [] i k y at = absurd (omega (arith, at))
reverse_set (x ∷ xs) zero k y at =
    reverse_cons y xs
    ∙ sym (set_end (reverse xs) x y k (let same = length-reverse xs in omega (arith, at, same)))
    ∙ ap (λ (zs : List _). set zs k y) (sym (reverse_cons x xs))
reverse_set (x ∷ xs) (suc i) k y at =
    reverse_cons x (set xs i y)
    ∙ ap (λ (zs : List _). zs ++ (x ∷ [])) (reverse_set xs i k y (omega (arith, at)))
    ∙ sym (set-append_left (reverse xs) (x ∷ []) k y (let same = length-reverse xs in omega (arith, at, same)))
    ∙ ap (λ (zs : List _). set zs k y) (sym (reverse_cons x xs))

map_pushed : {X Y : Type 0} (f : X → Y) (xs : List X) (x : X) → map f (xs ++ (x ∷ [])) ≡ map f xs ++ (f x ∷ [])
map_pushed f [] x = refl
map_pushed f (y ∷ ys) x = ap (λ (zs : List _). f y ∷ zs) (map_pushed f ys x)

pub reverse_map : {X Y : Type 0} (f : X → Y) (xs : List X) → reverse (map f xs) ≡ map f (reverse xs)
reverse_map f [] = refl
reverse_map f (x ∷ xs) =
    reverse_cons (f x) (map f xs)
    ∙ ap (λ (zs : List _). zs ++ (f x ∷ [])) (reverse_map f xs)
    ∙ sym (map_pushed f (reverse xs) x)
    ∙ ap (map f) (sym (reverse_cons x xs))

-- ---- The first that passes

changed_here : {X : Type 0} (test : X → Bool) (change : X → X) (xs : List X) (i : ℕ) (d : X) → i < length xs → test (get_or xs i d) ≡ true → ((k : ℕ) → k < i → test (get_or xs k d) ≡ false)
    → changed_first test change xs ≡ set xs i (change (get_or xs i d))
changed_here test change [] i d lt is before = absurd (omega (arith, lt))
changed_here test change (x ∷ xs) zero d lt is before = cond-true (test x) (change x ∷ xs) (x ∷ changed_first test change xs) is
changed_here test change (x ∷ xs) (suc i) d lt is before =
    cond-false (test x) (change x ∷ xs) (x ∷ changed_first test change xs) (before 0 (omega arith))
    ∙ ap (λ (zs : List _). x ∷ zs) (changed_here test change xs i d (omega (arith, lt)) is (λ k less. before (suc k) (omega (arith, less))))

pub changed_at : {X : Type 0} (test : X → Bool) (change : X → X) (xs : List X) (i : ℕ) (d : X) → position test xs ≡ Some i → changed_first test change xs ≡ set xs i (change (get_or xs i d))
changed_at test change xs i d at = let says = position-Some test xs i d at in changed_here test change xs i d says.0 says.1 says.2

pub none_of : {X : Type 0} (b : Bool) (x : X) → cond b (Some x) None ≡ None → b ≡ false
none_of true x is = absurd cc
none_of false x is = refl

changed_nowhere : {X : Type 0} (test : X → Bool) (change : X → X) (xs : List X) (d : X) → ((k : ℕ) → k < length xs → test (get_or xs k d) ≡ false) → changed_first test change xs ≡ xs
changed_nowhere test change [] d fails = refl
changed_nowhere test change (x ∷ xs) d fails =
    cond-false (test x) (change x ∷ xs) (x ∷ changed_first test change xs) (fails 0 (omega arith))
    ∙ ap (λ (zs : List _). x ∷ zs) (changed_nowhere test change xs d (λ k less. fails (suc k) (omega (arith, less))))

pub changed_none : {X : Type 0} (test : X → Bool) (change : X → X) (xs : List X) (d : X) → position test xs ≡ None → changed_first test change xs ≡ xs
changed_none test change xs d none =
    let all : length xs ≤ position_or_len test xs = ltb-false (position_or_len test xs) (length xs) (none_of (nat_lt (position_or_len test xs) (length xs)) (position_or_len test xs) none) in
    changed_nowhere test change xs d (λ k less. fails_before_first test xs k d (omega (arith, all, less)))

-- the first that passes in the reversed list, changed at its place in the array
pub changed_in_place : {X : Type 0} (test : X → Bool) (change : X → X) (xs : List X) (newer place : ℕ) (x y : X) → position test (reverse xs) ≡ Some newer → place ≡ length xs - 1 - newer → x ≡ get_or xs place x → y ≡ change x
    → reverse (set xs place y) ≡ changed_first test change (reverse xs)
changed_in_place test change xs newer place x y at is here changes =
    let says = position-Some test (reverse xs) newer x at in
    let all = length-reverse xs in
    let less : newer < length xs = let lt = says.0 in omega (arith, lt, all) in
    let there : get_or (reverse xs) newer x ≡ x = get_or-reverse xs newer x less ∙ ap (λ (n : ℕ). get_or xs n x) (sym is) ∙ sym here in
    reverse_set xs place newer y (omega (arith, is, less))
    ∙ ap (λ (z : _). set (reverse xs) newer z) (changes ∙ ap change (sym there))
    ∙ sym (changed_at test change (reverse xs) newer x at)

-- what was written over the front of a list of the same length
pub take_written : {X : Type 0} (xs ys : List X) (n : ℕ) → length xs ≡ length ys → n ≡ length ys → xs ≡ take n (xs ++ drop (length xs) ys)
take_written xs ys n same all =
    sym (ap (λ rest. take n (xs ++ rest)) (drop_of_length-le ys (omega (arith, same)))
    ∙ ap (take n) (append-nil xs) ∙ take_all n xs (omega (arith, same, all)))
