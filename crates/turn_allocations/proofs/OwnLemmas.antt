-- A client's relayed addresses are at most two: what is asked of all is asked of them.
use Rattle.std.proofs.Common.{◌≡◌, ℕ, ◌<◌, ◌≤◌, zero, suc, Bool, true, false, cond, List, [], ◌∷◌, filter, find, Option, None, Some, get_or, refl, sym, ap, ◌∙◌, subst, arith, inl, inr, eqb-true, eq-eqb, ltb-true, ltb-false}
use Rattle.std.specs.List.{AllByRecursion, list_any}
use Rattle.std.specs.Prelude.{◌⊎◌, ◌||◌, ◌==◌, nat_lt, option_and_then}
use Rattle.std.proofs.lemmas.Bool.{cond_both, cond-false, and_parts, and_from, or_cases, false_from_ne_true}
use Rattle.stun_endpoints.specs.declared.endpoints.FiveTuple.{FiveTuple}
use Rattle.turn_machine.specs.Relays.{Relay, is_of, is_for}
use Rattle.turn_machine.specs.Times.{first_end, earlier_of}
use Rattle.turn_relays.specs.Newest.{put, newest_first}
use Rattle.turn_relays.specs.Relayed.{number_of}
use Rattle.turn_relays.specs.Following.{listed, EachOf, ListFollowsSlots}
use Rattle.turn_relays.specs.Listing.{HasAt, ListHasSlots}

-- ---- A list of those that pass a test

filter_none : {X : Type 0} (test : X → Bool) (xs : List X) → AllByRecursion (λ x. test x ≡ false) xs → filter test xs ≡ []
filter_none test [] each = refl
filter_none test (x ∷ xs) each = cond-false (test x) (x ∷ filter test xs) (filter test xs) each.0 ∙ filter_none test xs each.1

-- a test that only those pass
abbrev pub Within : {X : Type 0} → (test p : X → Bool) → Type 0
Within {X} test p = (x : X) → test x ≡ false → p x ≡ false

pub any_kept : {X : Type 0} (test p : X → Bool) → Within test p → (xs : List X) → list_any p xs ≡ list_any p (filter test xs)
any_kept test p within [] = refl
any_kept test p within (x ∷ xs) =
    cond_both (test x) (x ∷ filter test xs) (filter test xs) (λ ys. (p x || list_any p xs) ≡ list_any p ys)
    (λ _. ap (λ (b : Bool). p x || b) (any_kept test p within xs))
    (λ no. ap (λ (b : Bool). b || list_any p xs) (within x no) ∙ any_kept test p within xs)

pub find_kept : {X : Type 0} (test p : X → Bool) → Within test p → (xs : List X) → find p xs ≡ find p (filter test xs)
find_kept test p within [] = refl
find_kept {X = X} test p within (x ∷ xs) =
    cond_both (test x) (x ∷ filter test xs) (filter test xs) (λ ys. cond (p x) (Some x) (find p xs) ≡ find p ys)
    (λ _. ap (λ (o : Option X). cond (p x) (Some x) o) (find_kept test p within xs))
    (λ no. cond-false (p x) (Some x) (find p xs) (within x no) ∙ find_kept test p within xs)

pub first_kept : (tuple : FiveTuple) (xs : List Relay) → first_end tuple xs ≡ first_end tuple (filter (is_of tuple) xs)
first_kept tuple [] = refl
first_kept tuple (x ∷ xs) =
    cond_both (is_of tuple x) (x ∷ filter (is_of tuple) xs) (filter (is_of tuple) xs) (λ ys. cond (is_of tuple x) (Some (earlier_of x.expires_at (first_end tuple xs))) (first_end tuple xs) ≡ first_end tuple ys)
    (λ _. ap (λ (o : Option ℕ). cond (is_of tuple x) (Some (earlier_of x.expires_at o)) o) (first_kept tuple xs))
    (λ no. cond-false (is_of tuple x) (Some (earlier_of x.expires_at (first_end tuple xs))) (first_end tuple xs) no ∙ first_kept tuple xs)

-- ---- Two at most

abbrev pub two : Option Relay → Option Relay → List Relay
two one other = newest_first number_of (one ∷ other ∷ [])

abbrev pub any_in : (Relay → Bool) → Option Relay → Bool
any_in p None = false
any_in p (Some r) = p r

any_put : (p : Relay → Bool) (r s : Relay) → list_any p (put number_of r (s ∷ [])) ≡ (p r || (p s || false))
any_put p r s =
    cond_both (nat_lt r.number s.number) (s ∷ put number_of r []) (r ∷ s ∷ []) (λ ys. list_any p ys ≡ (p r || (p s || false)))
    (λ _. or_swap (p s) (p r)) (λ _. refl)
  where
    or_swap : (a b : Bool) → (a || (b || false)) ≡ (b || (a || false))
    or_swap true true = refl
    or_swap true false = refl
    or_swap false true = refl
    or_swap false false = refl

or_none : (a : Bool) → (a || false) ≡ a
or_none true = refl
or_none false = refl

pub any_two : (p : Relay → Bool) (one other : Option Relay) → list_any p (two one other) ≡ (any_in p one || any_in p other)
any_two p None None = refl
any_two p None (Some s) = or_none (p s)
any_two p (Some r) None = refl
any_two p (Some r) (Some s) = any_put p r s ∙ ap (λ (b : Bool). p r || b) (or_none (p s))

-- ---- Those of a client

-- at most one passes: which is found
pub find_two_first : (p : Relay → Bool) (one other : Option Relay) → any_in p other ≡ false → find p (two one other) ≡ option_and_then (λ r. cond (p r) (Some r) None) one
find_two_first p None None none = refl
find_two_first p None (Some s) none = cond-false (p s) (Some s) None none
find_two_first p (Some r) None none = refl
find_two_first p (Some r) (Some s) none =
    cond_both (nat_lt r.number s.number) (s ∷ put number_of r []) (r ∷ s ∷ []) (λ ys. find p ys ≡ cond (p r) (Some r) None)
    (λ _. cond-false (p s) (Some s) (cond (p r) (Some r) None) none)
    (λ _. ap (λ (o : Option Relay). cond (p r) (Some r) o) (cond-false (p s) (Some s) None none))

pub find_two_second : (p : Relay → Bool) (one other : Option Relay) → any_in p one ≡ false → find p (two one other) ≡ option_and_then (λ r. cond (p r) (Some r) None) other
find_two_second p None None none = refl
find_two_second p None (Some s) none = refl
find_two_second p (Some r) None none = cond-false (p r) (Some r) None none
find_two_second p (Some r) (Some s) none =
    cond_both (nat_lt r.number s.number) (s ∷ put number_of r []) (r ∷ s ∷ []) (λ ys. find p ys ≡ cond (p s) (Some s) None)
    (λ _. ap (λ (o : Option Relay). cond (p s) (Some s) o) (cond-false (p r) (Some r) None none))
    (λ _. cond-false (p r) (Some r) (cond (p s) (Some s) None) none)

-- ---- What is in the slots

is_family : (tuple : FiveTuple) (r : Relay) (family : ℕ) → is_for tuple family r ≡ true → r.family ≡ family
is_family tuple r family is = eqb-true r.family family (and_parts (is_of tuple r) (r.family == family) is).1

pub other_family : (tuple : FiveTuple) (r : Relay) (family other : ℕ) → is_for tuple family r ≡ true → (family == other) ≡ false → is_for tuple other r ≡ false
other_family tuple r family other is differ =
    let same = is_family tuple r family is in
    false_from_ne_true (is_for tuple other r) (λ also.
    let too = is_family tuple r other also in
    absurd (not_both (family == other) differ (eq-eqb family other (sym same ∙ too))))
  where
    not_both : (b : Bool) → b ≡ false → b ≡ true → ⊥
    not_both true is also = absurd cc
    not_both false is also = absurd cc

-- this slot alone has the client's relayed address of a family
pub record IsAlone (slots : List (Option Relay)) (tuple : FiveTuple) (family slot : ℕ) (r : Relay) : Type 0 where
  pub holds : HasAt slots slot r
  pub is_its : is_for tuple family r ≡ true
  pub only : (at : ℕ) (other : Relay) → HasAt slots at other → is_for tuple family other ≡ true → at ≡ slot

-- none has it, or one slot
pub data Found (slots : List (Option Relay)) (tuple : FiveTuple) (family : ℕ) : (place : Option ℕ) → Option Relay → Type 0 where
  free : EachOf slots (λ _ r. is_for tuple family r ≡ false) → Found slots tuple family None None
  alone : (slot : ℕ) (r : Relay) → IsAlone slots tuple family slot r → Found slots tuple family (Some slot) (Some r)

abbrev pub is_family_of : Relay → Bool
is_family_of r = (r.family == 1) || (r.family == 2)

-- one of the client's is of one of both families
of_either : (tuple : FiveTuple) (r : Relay) → is_family_of r ≡ true → is_of tuple r ≡ true → (is_for tuple 1 r ≡ true) ⊎ (is_for tuple 2 r ≡ true)
of_either tuple r either is = elim (or_cases (r.family == 1) (r.family == 2) either) [
  | inl one ↦ inl (and_from (is_of tuple r) (r.family == 1) is one)
  | inr two ↦ inr (and_from (is_of tuple r) (r.family == 2) is two)
]

module _ (has : ListHasSlots) (follows : ListFollowsSlots) (slots : List (Option Relay)) (tuple : FiveTuple)
    (numbers : (slot other : ℕ) (r s : Relay) → HasAt slots slot r → HasAt slots other s → r.number ≡ s.number → slot ≡ other)
    (sound : EachOf slots (λ _ r. is_family_of r ≡ true)) where
  not_of : (at : ℕ) (r : Relay) → HasAt slots at r → is_for tuple 1 r ≡ false → is_for tuple 2 r ≡ false → is_of tuple r ≡ false
  not_of at r there one two = false_from_ne_true (is_of tuple r) (λ is. elim (of_either tuple r (sound at r there) is) [
    | inl is_one ↦ differ (is_for tuple 1 r) is_one one
    | inr is_two ↦ differ (is_for tuple 2 r) is_two two
  ])
    where
      differ : (b : Bool) → b ≡ true → b ≡ false → ⊥
      differ true is also = absurd cc
      differ false is also = absurd cc

  single : (family other : ℕ) (slot : ℕ) (r : Relay) → IsAlone slots tuple family slot r → EachOf slots (λ _ a. is_for tuple other a ≡ false)
      → ((at : ℕ) (a : Relay) → HasAt slots at a → is_of tuple a ≡ true → (is_for tuple family a ≡ true) ⊎ (is_for tuple other a ≡ true)) → filter (is_of tuple) (listed slots) ≡ r ∷ []
  single family other slot r it none either =
      has.one slots (is_of tuple) slot r it.holds (and_parts (is_of tuple r) (r.family == family) it.is_its).0
      (λ at a there is. elim (either at a there is) [
        | inl so ↦ it.only at a there so
        | inr so ↦ absurd (differ (is_for tuple other a) so (none at a there))
      ])
    where
      differ : (b : Bool) → b ≡ true → b ≡ false → ⊥
      differ true is also = absurd cc
      differ false is also = absurd cc

  pub all_own : {at4 at6 : Option ℕ} {ipv4 ipv6 : Option Relay} → Found slots tuple 1 at4 ipv4 → Found slots tuple 2 at6 ipv6 → filter (is_of tuple) (listed slots) ≡ two ipv4 ipv6
  all_own (free one) (free other) =
      filter_none (is_of tuple) (listed slots) (follows.missing slots (is_of tuple) (λ at r there. not_of at r there (one at r there) (other at r there)))
  all_own (alone slot r it) (free other) =
      single 1 2 slot r it other (λ at a there is. of_either tuple a (sound at a there) is)
  all_own (free one) (alone slot s it) =
      single 2 1 slot s it one (λ at a there is. elim (of_either tuple a (sound at a there) is) [
        | inl so ↦ inr so
        | inr so ↦ inl so
      ])
  all_own (alone slot r it) (alone other s its) =
      cond_both (nat_lt r.number s.number) (s ∷ put number_of r []) (r ∷ s ∷ []) (λ ys. filter (is_of tuple) (listed slots) ≡ ys)
      (λ less. has.two slots (is_of tuple) other slot s r its.holds it.holds (of_it s 2 its.is_its) (of_it r 1 it.is_its) (ltb-true r.number s.number less)
      (λ at a there is. elim (of_either tuple a (sound at a there) is) [
        | inl so ↦ inr (it.only at a there so)
        | inr so ↦ inl (its.only at a there so)
      ]))
      (λ least. has.two slots (is_of tuple) slot other r s it.holds its.holds (of_it r 1 it.is_its) (of_it s 2 its.is_its)
      (let le = ltb-false r.number s.number least in
      let apart = numbers_differ in
      below r.number s.number le apart)
      (λ at a there is. elim (of_either tuple a (sound at a there) is) [
        | inl so ↦ inl (it.only at a there so)
        | inr so ↦ inr (its.only at a there so)
      ]))
    where
      of_it : (x : Relay) (family : ℕ) → is_for tuple family x ≡ true → is_of tuple x ≡ true
      of_it x family is = (and_parts (is_of tuple x) (x.family == family) is).0

      numbers_differ : r.number ≡ s.number → ⊥
      numbers_differ same =
          let at_one = numbers slot other r s it.holds its.holds same in
          let r_is = it.holds in
          let s_is = subst (λ (i : ℕ). get_or slots i None ≡ Some s) (sym at_one) its.holds in
          let one : r ≡ s = some_same r s (sym r_is ∙ s_is) in
          let four = is_family tuple r 1 it.is_its in
          let six = is_family tuple s 2 its.is_its in
          let both = ap (λ (x : Relay). x.family) one in
          absurd (omega (arith, four, six, both))
        where
          some_same : (x y : Relay) → Some x ≡ Some y → x ≡ y
          some_same x y is = cc

      below : (m n : ℕ) → n ≤ m → (m ≡ n → ⊥) → n < m
      below m n le differ = elim (cases m n le) [
        | inl lt ↦ lt
        | inr same ↦ absurd (differ same)
      ]
        where
          cases : (m n : ℕ) → n ≤ m → (n < m) ⊎ (m ≡ n)
          cases m zero le = case_zero m
            where
              case_zero : (m : ℕ) → (0 < m) ⊎ (m ≡ 0)
              case_zero zero = inr refl
              case_zero (suc m) = inl (omega arith)
          cases zero (suc n) le = absurd (omega (arith, le))
          cases (suc m) (suc n) le = elim (cases m n (omega (arith, le))) [
            | inl lt ↦ inl (omega (arith, lt))
            | inr same ↦ inr (omega (arith, same))
          ]
