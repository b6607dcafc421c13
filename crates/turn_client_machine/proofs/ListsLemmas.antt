-- Lists each of whose elements has a property.
use Rattle.std.proofs.Common.{◌≡◌, inl, inr, ◌⊎◌, true, ◌&&◌, ◌||◌, Bool, List, [], ◌∷◌, ◌++◌, map, Option, None, Some, ◌∙◌, find, sym, subst}
use Rattle.std.specs.List.{AllByRecursion, list_any}
use Rattle.turn_machine.specs.Lists.{SomeOf}
use Rattle.std.proofs.lemmas.Bool.{cond_both, cond-true, cond-false, or_left, or_right, or_cases, and_parts, true≢false, false≢true}
use Rattle.turn_client_machine.specs.Responses.{changed_first, changed_each}

pub each_map : {X : Type 0} (P Q : X → Type 0) → ((x : X) → P x → Q x) → (xs : List X) → AllByRecursion P xs → AllByRecursion Q xs
each_map P Q f [] each = each
each_map P Q f (x ∷ xs) each = (f x each.0, each_map P Q f xs each.1)

pub each_mapped : {X Y : Type 0} (P : X → Type 0) (Q : Y → Type 0) (g : X → Y) → ((x : X) → P x → Q (g x)) → (xs : List X) → AllByRecursion P xs → AllByRecursion Q (map g xs)
each_mapped P Q g f [] each = each
each_mapped P Q g f (x ∷ xs) each = (f x each.0, each_mapped P Q g f xs each.1)

-- the first that passes is changed, and it is the one that a look-up finds
pub each_changed : {X : Type 0} (P : X → Type 0) (test : X → Bool) (change : X → X) (xs : List X)
    → ((x : X) → test x ≡ true → find test xs ≡ Some x → P x → P (change x)) → AllByRecursion P xs → AllByRecursion P (changed_first test change xs)
each_changed P test change [] here each = each
each_changed P test change (x ∷ xs) here each =
    cond_both (test x) (change x ∷ xs) (x ∷ changed_first test change xs) (λ ys. AllByRecursion P ys)
    (λ yes. (here x yes (cond-true (test x) (Some x) (find test xs) yes) each.0, each.1))
    (λ no. (each.0, each_changed P test change xs (λ y is found. here y is (cond-false (test x) (Some x) (find test xs) no ∙ found)) each.1))

-- an element that passes a test is among them
abbrev pub Within : {X : Type 0} → List X → X → Type 0
Within xs x = (good : _ → Bool) → good x ≡ true → list_any good xs ≡ true

-- each that passes is changed
pub each_changed_each : {X : Type 0} (P : X → Type 0) (test : X → Bool) (change : X → X) (xs : List X)
    → ((x : X) → test x ≡ true → Within xs x → P x → P (change x)) → AllByRecursion P xs → AllByRecursion P (changed_each test change xs)
each_changed_each P test change [] here each = each
each_changed_each P test change (x ∷ xs) here each = (
  cond_both (test x) (change x) x P (λ yes. here x yes (λ good is. or_left (good x) (list_any good xs) is) each.0) (λ _. each.0),
  each_changed_each P test change xs (λ y is within. here y is (λ good one. or_right (good x) (list_any good xs) (within good one))) each.1,
)

-- what holds of the first that passes, if one does
pub found : {X : Type 0} (P : X → Type 0) (test : X → Bool) (Q : Option X → Type 0) → Q None → (xs : List X) → ((x : X) → test x ≡ true → P x → Q (Some x)) → AllByRecursion P xs → Q (find test xs)
found P test Q none [] here each = none
found P test Q none (x ∷ xs) here each =
    cond_both (test x) (Some x) (find test xs) Q (λ yes. here x yes each.0) (λ no. found P test Q none xs here each.1)

pub each_pair : {X : Type 0} (P Q : X → Type 0) → (xs : List X) → AllByRecursion P xs → AllByRecursion Q xs → AllByRecursion (λ x. P x × Q x) xs
each_pair P Q [] one other = tt
each_pair P Q (x ∷ xs) one other = ((one.0, other.0), each_pair P Q xs one.1 other.1)

-- ---- Some element

abbrev pub AnyOf : {X : Type 0} → (X → Type 0) → List X → Type 0
AnyOf P [] = ⊥
AnyOf P (x ∷ xs) = P x ⊎ AnyOf P xs

pub any_out : {X : Type 0} (P : X → Type 0) (R : Type 0) → ((x : X) → P x → R) → (xs : List X) → AnyOf P xs → R
any_out P R f [] some = absurd some
any_out P R f (x ∷ xs) (inl p) = f x p
any_out P R f (x ∷ xs) (inr some) = any_out P R f xs some

pub any_map : {X Y : Type 0} (P : X → Type 0) (Q : Y → Type 0) (g : X → Y) → ((x : X) → P x → Q (g x)) → (xs : List X) → AnyOf P xs → AnyOf Q (map g xs)
any_map P Q g f [] some = some
any_map P Q g f (x ∷ xs) (inl p) = inl (f x p)
any_map P Q g f (x ∷ xs) (inr some) = inr (any_map P Q g f xs some)

pub any_each : {X : Type 0} (P Q : X → Type 0) → ((x : X) → P x → Q x) → (xs : List X) → AnyOf P xs → AnyOf Q xs
any_each P Q f [] some = some
any_each P Q f (x ∷ xs) (inl p) = inl (f x p)
any_each P Q f (x ∷ xs) (inr some) = inr (any_each P Q f xs some)

pub any_changed_each : {X : Type 0} (P : X → Type 0) (test : X → Bool) (change : X → X) → ((x : X) → P x → P (change x)) → (xs : List X) → AnyOf P xs → AnyOf P (changed_each test change xs)
any_changed_each P test change f [] some = some
any_changed_each P test change f (x ∷ xs) (inl p) = inl (cond_both (test x) (change x) x P (λ _. f x p) (λ _. p))
any_changed_each P test change f (x ∷ xs) (inr more) = inr (any_changed_each P test change f xs more)

pub any_changed : {X : Type 0} (P : X → Type 0) (test : X → Bool) (change : X → X) → ((x : X) → P x → P (change x)) → (xs : List X) → AnyOf P xs → AnyOf P (changed_first test change xs)
any_changed P test change f [] some = some
any_changed P test change f (x ∷ xs) some = cond_both (test x) (change x ∷ xs) (x ∷ changed_first test change xs) (AnyOf P)
    (λ _. elim some [
      | inl p ↦ inl (f x p)
      | inr more ↦ inr more
    ])
    (λ _. elim some [
      | inl p ↦ inl p
      | inr more ↦ inr (any_changed P test change f xs more)
    ])

-- what a change of other elements keeps
pub any_kept : {X : Type 0} (test good : X → Bool) (change : X → X) → ((x : X) → good x ≡ true → test x ≡ true → ⊥) → (xs : List X) → list_any good xs ≡ true → list_any good (changed_first test change xs) ≡ true
any_kept test good change other [] some = some
any_kept test good change other (x ∷ xs) some = cond_both (test x) (change x ∷ xs) (x ∷ changed_first test change xs) (λ ys. list_any good ys ≡ true)
    (λ yes. elim (or_cases (good x) (list_any good xs) some) [
      | inl is ↦ absurd (other x is yes)
      | inr more ↦ or_right (good (change x)) (list_any good xs) more
    ])
    (λ _. elim (or_cases (good x) (list_any good xs) some) [
      | inl is ↦ or_left (good x) (list_any good (changed_first test change xs)) is
      | inr more ↦ or_right (good x) (list_any good (changed_first test change xs)) (any_kept test good change other xs more)
    ])

-- one that passes a test, and then another once it is changed
pub any_after : {X : Type 0} (test good : X → Bool) (change : X → X) (xs : List X) → list_any (λ x. test x && good (change x)) xs ≡ true → (list_any test xs ≡ true) × (list_any good (changed_each test change xs) ≡ true)
any_after test good change [] some = absurd (false≢true some)
any_after test good change (x ∷ xs) some = elim (or_cases (test x && good (change x)) (list_any (λ x. test x && good (change x)) xs) some) [
  | inl is ↦
      let both = and_parts (test x) (good (change x)) is in
      (or_left (test x) (list_any test xs) both.0, cond_both (test x) (change x) x (λ y. (good y || list_any good (changed_each test change xs)) ≡ true) (λ _. or_left (good (change x)) (list_any good (changed_each test change xs)) both.1) (λ no. absurd (true≢false (sym both.0 ∙ no))))
  | inr more ↦
      let rest = any_after test good change xs more in
      (or_right (test x) (list_any test xs) rest.0, cond_both (test x) (change x) x (λ y. (good y || list_any good (changed_each test change xs)) ≡ true) (λ _. or_right (good (change x)) (list_any good (changed_each test change xs)) rest.1) (λ _. or_right (good x) (list_any good (changed_each test change xs)) rest.1))
]

-- each element is among the list's
pub among : {X : Type 0} (P : X → Type 0) (xs : List X) → AllByRecursion (λ x. P x → AnyOf P xs) xs
among P [] = tt
among P (x ∷ xs) = (λ p. inl p, each_map (λ y. P y → AnyOf P xs) (λ y. P y → AnyOf P (x ∷ xs)) (λ y f p. inr (f p)) xs (among P xs))

-- the server's words for the same
pub some_map : {X : Type 0} (P Q : X → Type 0) → ((x : X) → P x → Q x) → (xs : List X) → SomeOf P xs → SomeOf Q xs
some_map P Q f [] some = absurd some
some_map P Q f (x ∷ xs) (inl p) = inl (f x p)
some_map P Q f (x ∷ xs) (inr some) = inr (some_map P Q f xs some)

pub some_each_out : {X : Type 0} (P Q : X → Type 0) (R : Type 0) → ((x : X) → P x → Q x → R) → (xs : List X) → AllByRecursion P xs → SomeOf Q xs → R
some_each_out P Q R f [] each some = absurd some
some_each_out P Q R f (x ∷ xs) each (inl q) = f x each.0 q
some_each_out P Q R f (x ∷ xs) each (inr some) = some_each_out P Q R f xs each.1 some

pub some_any : {X : Type 0} (P : X → Type 0) (good : X → Bool) → ((x : X) → P x → good x ≡ true) → (xs : List X) → SomeOf P xs → list_any good xs ≡ true
some_any P good f [] some = absurd some
some_any P good f (x ∷ xs) (inl p) = or_left (good x) (list_any good xs) (f x p)
some_any P good f (x ∷ xs) (inr some) = or_right (good x) (list_any good xs) (some_any P good f xs some)

pub some_left : {X : Type 0} (P : X → Type 0) (xs ys : List X) → SomeOf P xs → SomeOf P (xs ++ ys)
some_left P [] ys some = absurd some
some_left P (x ∷ xs) ys (inl p) = inl p
some_left P (x ∷ xs) ys (inr some) = inr (some_left P xs ys some)

pub some_right : {X : Type 0} (P : X → Type 0) (xs ys : List X) → SomeOf P ys → SomeOf P (xs ++ ys)
some_right P [] ys some = some
some_right P (x ∷ xs) ys some = inr (some_right P xs ys some)

pub each_append : {X : Type 0} (P : X → Type 0) (xs ys : List X) → AllByRecursion P xs → AllByRecursion P ys → AllByRecursion P (xs ++ ys)
each_append P [] ys one two = two
each_append P (x ∷ xs) ys one two = (one.0, each_append P xs ys one.1 two)

-- what is found passes another test too
pub found_some : {X : Type 0} (test good : X → Bool) (x : X) (xs : List X) → find test xs ≡ Some x → good x ≡ true → list_any good xs ≡ true
found_some test good x [] found is = absurd cc
found_some test good x (y ∷ ys) found is =
    cond_both (test y) (Some y) (find test ys) (λ o. o ≡ Some x → list_any good (y ∷ ys) ≡ true)
    (λ _ e. let same : y ≡ x = cc in or_left (good y) (list_any good ys) (subst (λ z. good z ≡ true) (sym same) is))
    (λ _ e. or_right (good y) (list_any good ys) (found_some test good x ys e is)) found
