-- A client's relayed addresses change in their slots, and so in the list.
use Rattle.std.proofs.Common.{◌≡◌, ℕ, zero, suc, Bool, true, false, cond, List, [], ◌∷◌, map, length, Option, None, Some, get_or, set, refl, sym, ap, ◌∙◌, subst, arith, inl, inr, eqb-true, eq-eqb}
use Rattle.std.specs.List.{AllByRecursion}
use Rattle.std.specs.Option.{option_map_or}
use Rattle.std.specs.Prelude.{◌⊎◌, ◌&&◌, ◌==◌}
use Rattle.std.proofs.lemmas.Bool.{cond_both, cond-true, cond-false, and_parts, and_from, and_left, and_right, or_cases, cases_Bool, false_from_ne_true}
use Rattle.std.proofs.lemmas.List.{length-set}
use Rattle.stun_endpoints.specs.declared.endpoints.FiveTuple.{FiveTuple}
use Rattle.stun_endpoints.specs.Endpoints.{is_tuple}
use Rattle.turn_machine.specs.Relays.{Relay, is_of, is_for, is_users, is_owned}
use Rattle.turn_relays.specs.Following.{listed, EachOf, ListFollowsSlots}
use Rattle.turn_relays.specs.Listing.{HasAt, ListHasSlots}
use Rattle.turn_allocations.proofs.OwnLemmas.{Found, free, alone, is_family_of}

-- ---- A slot that is set

pub after_set : (slots : List (Option Relay)) (i : ℕ) (x : Option Relay) (j : ℕ) (a : Relay) → get_or (set slots i x) j None ≡ Some a
    → ((j ≡ i) × (x ≡ Some a)) ⊎ ((j ≡ i → ⊥) × (get_or slots j None ≡ Some a))
after_set [] i x j a there = absurd cc
after_set (y ∷ slots) zero x zero a there = inl (refl, there)
after_set (y ∷ slots) zero x (suc j) a there = inr ((λ is. absurd (omega (arith, is))), there)
after_set (y ∷ slots) (suc i) x zero a there = inr ((λ is. absurd (omega (arith, is))), there)
after_set (y ∷ slots) (suc i) x (suc j) a there = elim (after_set slots i x j a there) [
  | inl here ↦ inl (ap suc here.0, here.1)
  | inr away ↦ inr ((λ is. away.0 (omega (arith, is))), away.1)
]

pub set_there : (slots : List (Option Relay)) (i : ℕ) (x : Option Relay) (j : ℕ) (a : Relay) → (j ≡ i → ⊥) → get_or slots j None ≡ Some a → get_or (set slots i x) j None ≡ Some a
set_there [] i x j a away there = absurd cc
set_there (y ∷ slots) zero x zero a away there = absurd (away refl)
set_there (y ∷ slots) zero x (suc j) a away there = there
set_there (y ∷ slots) (suc i) x zero a away there = there
set_there (y ∷ slots) (suc i) x (suc j) a away there = set_there slots i x j a (λ is. away (ap suc is)) there

some_same : {X : Type 0} (x y : X) → Some x ≡ Some y → x ≡ y
some_same x y is = cc

differ : (b : Bool) → b ≡ true → b ≡ false → ⊥
differ true is also = absurd cc
differ false is also = absurd cc

-- what is in a slot changes, if something is
abbrev pub changed_at : (place : Option ℕ) → (Relay → Relay) → List (Option Relay) → List (Option Relay)
changed_at None change slots = slots
changed_at (Some slot) change slots = option_map_or (λ r. set slots slot (Some (change r))) (get_or slots slot None) slots

pub changed_length : (place : Option ℕ) (change : Relay → Relay) (slots : List (Option Relay)) → length (changed_at place change slots) ≡ length slots
changed_length None change slots = refl
changed_length (Some slot) change slots = in_slot (get_or slots slot None)
  where
    in_slot : (o : Option Relay) → length (option_map_or (λ r. set slots slot (Some (change r))) o slots) ≡ length slots
    in_slot None = refl
    in_slot (Some r) = length-set slots slot (Some (change r))

pub changed_is : (slot : ℕ) (change : Relay → Relay) (slots : List (Option Relay)) (r : Relay) → HasAt slots slot r → changed_at (Some slot) change slots ≡ set slots slot (Some (change r))
changed_is slot change slots r there = ap (λ (o : Option Relay). option_map_or (λ x. set slots slot (Some (change x))) o slots) there

map_same : {X : Type 0} (f : X → X) (xs : List X) → AllByRecursion (λ x. f x ≡ x) xs → map f xs ≡ xs
map_same f [] each = refl
map_same f (x ∷ xs) each = λ i. each.0 i ∷ map_same f xs each.1 i

pub each_of : {X : Type 0} (P Q : X → Type 0) → ((x : X) → P x → Q x) → (xs : List X) → AllByRecursion P xs → AllByRecursion Q xs
each_of P Q f [] each = tt
each_of P Q f (x ∷ xs) each = (f x each.0, each_of P Q f xs each.1)

map_twice : {X : Type 0} (f g h : X → X) (xs : List X) → AllByRecursion (λ x. f (g x) ≡ h x) xs → map f (map g xs) ≡ map h xs
map_twice f g h [] each = refl
map_twice f g h (x ∷ xs) each = λ i. each.0 i ∷ map_twice f g h xs each.1 i

-- ---- A change of a user's

-- what a change leaves
pub record Keeps (a b : Relay) : Type 0 where
  pub tuple : b.tuple ≡ a.tuple
  pub user : b.user ≡ a.user
  pub family : b.family ≡ a.family
  pub number : b.number ≡ a.number

module _ (tuple : FiveTuple) (user : ℕ) (change : Relay → Relay) (keeps : (a : Relay) → Keeps a (change a)) where
  abbrev on : (family : ℕ) → Relay → Bool
  on family a = is_owned tuple user a && (a.family == family)

  abbrev part : (family : ℕ) → Relay → Relay
  part family a = cond (on family a) (change a) a

  abbrev pub whole : Relay → Relay
  whole a = cond (is_owned tuple user a) (change a) a

  same_for : (family : ℕ) (a : Relay) → is_for tuple family (change a) ≡ is_for tuple family a
  same_for family a = let k = keeps a in rw (k.tuple, k.family) refl

  part_number : (family : ℕ) (a : Relay) → (part family a).number ≡ a.number
  part_number family a = cond_both (on family a) (change a) a (λ b. b.number ≡ a.number) (λ _. (keeps a).number) (λ _. refl)

  -- each relayed address of the client is the user's
  abbrev pub AreUsers : List (Option Relay) → Type 0
  AreUsers slots = EachOf slots (λ _ r. is_of tuple r ≡ true → is_users user r ≡ true)

  is_on : (family : ℕ) (a : Relay) → is_for tuple family a ≡ true → is_users user a ≡ true → on family a ≡ true
  is_on family a is his =
      let parts = and_parts (is_of tuple a) (a.family == family) is in
      and_from (is_owned tuple user a) (a.family == family) (and_from (is_of tuple a) (is_users user a) parts.0 his) parts.1

  for_on : (family : ℕ) (a : Relay) → on family a ≡ true → is_for tuple family a ≡ true
  for_on family a is =
      let parts = and_parts (is_owned tuple user a) (a.family == family) is in
      and_from (is_of tuple a) (a.family == family) (and_parts (is_of tuple a) (is_users user a) parts.0).0 parts.1

  part_same : (family : ℕ) (a : Relay) → is_for tuple family a ≡ false → part family a ≡ a
  part_same family a isnt = cond-false (on family a) (change a) a (false_from_ne_true (on family a) (λ is. differ (is_for tuple family a) (for_on family a is) isnt))

  changed_one : ListFollowsSlots → ListHasSlots → (slots : List (Option Relay)) (family : ℕ) {place : Option ℕ} {o : Option Relay} → AreUsers slots → Found slots tuple family place o
      → listed (changed_at place change slots) ≡ map (part family) (listed slots)
  changed_one follows has slots family his (free none) =
      sym (map_same (part family) (listed slots) (each_of (λ a. is_for tuple family a ≡ false) (λ a. part family a ≡ a) (part_same family) (listed slots)
      (follows.missing slots (is_for tuple family) none)))
  changed_one follows has slots family his (alone slot r it) =
      let on_r = is_on family r it.is_its (his slot r it.holds (and_parts (is_of tuple r) (r.family == family) it.is_its).0) in
      let is : part family r ≡ change r = cond-true (on family r) (change r) r on_r in
      ap listed (changed_is slot change slots r it.holds)
      ∙ (ap (λ (x : Relay). listed (set slots slot (Some x))) (sym is)
      ∙ follows.changed slots slot r (part family) it.holds (part_number family)
      (λ at other there away. part_same family other (false_from_ne_true (is_for tuple family other) (λ also. away (it.only at other there also)))))

  found_after : (slots : List (Option Relay)) (family other : ℕ) {place beside : Option ℕ} {o p : Option Relay} → (family == other) ≡ false → Found slots tuple family place o → Found slots tuple other beside p
      → Found (changed_at place change slots) tuple other beside p
  found_after slots family other apart (free none) also = also
  found_after slots family other apart (alone slot r it) (free none) =
      subst (λ (ss : List (Option Relay)). Found ss tuple other None None) (sym (changed_is slot change slots r it.holds))
      (free (λ at a there. elim (after_set slots slot (Some (change r)) at a there) [
        | inl here ↦
            let is = some_same (change r) a here.1 in
            subst (λ (x : Relay). is_for tuple other x ≡ false) is (same_for other r ∙ none slot r it.holds)
        | inr away ↦ none at a away.1
      ]))
  found_after slots family other apart (alone slot r it) (alone at s its) =
      let away : at ≡ slot → ⊥ = λ same.
      let one : s ≡ r = some_same s r (sym its.holds ∙ (ap (λ (i : ℕ). get_or slots i None) same ∙ it.holds)) in
      let four = eqb-true r.family family (and_parts (is_of tuple r) (r.family == family) it.is_its).1 in
      let six = eqb-true s.family other (and_parts (is_of tuple s) (s.family == other) its.is_its).1 in
      differ (family == other) (eq-eqb family other (sym four ∙ (ap (λ (x : Relay). x.family) (sym one) ∙ six))) apart in
      subst (λ (ss : List (Option Relay)). Found ss tuple other (Some at) (Some s)) (sym (changed_is slot change slots r it.holds))
      (alone at s (record {
        holds = set_there slots slot (Some (change r)) at s away its.holds;
        is_its = its.is_its;
        only = λ i a there so. elim (after_set slots slot (Some (change r)) i a there) [
          | inl here ↦
              let is = some_same (change r) a here.1 in
              let also = subst (λ (x : Relay). is_for tuple other x ≡ true) (sym is) so in
              absurd (away (sym (its.only slot r it.holds (sym (same_for other r) ∙ also))))
          | inr elsewhere ↦ its.only i a elsewhere.1 so
        ];
      }))

  users_after : (slots : List (Option Relay)) (family : ℕ) {place : Option ℕ} {o : Option Relay} → AreUsers slots → Found slots tuple family place o → AreUsers (changed_at place change slots)
  users_after slots family his (free none) = his
  users_after slots family his (alone slot r it) =
      subst AreUsers (sym (changed_is slot change slots r it.holds))
      (λ at a there so. elim (after_set slots slot (Some (change r)) at a there) [
        | inl here ↦
            let is = some_same (change r) a here.1 in
            let k = keeps r in
            let of_r : is_of tuple r ≡ true = ap (λ (t : FiveTuple). is_tuple tuple t) (sym k.tuple) ∙ subst (λ (x : Relay). is_of tuple x ≡ true) (sym is) so in
            subst (λ (x : Relay). is_users user x ≡ true) is (ap (λ (u : ℕ). u == user) k.user ∙ his slot r it.holds of_r)
        | inr away ↦ his at a away.1 so
      ])

  two_parts : (a : Relay) → is_family_of a ≡ true → part 2 (part 1 a) ≡ whole a
  two_parts a either =
      elim (cases_Bool (is_owned tuple user a)) [
        | inl owned ↦ elim (or_cases (a.family == 1) (a.family == 2) either) [
          | inl one ↦
              let first : part 1 a ≡ change a = cond-true (on 1 a) (change a) a (and_from (is_owned tuple user a) (a.family == 1) owned one) in
              let k = keeps a in
              let not_two : ((change a).family == 2) ≡ false = ap (λ (f : ℕ). f == 2) (k.family ∙ eqb-true a.family 1 one) in
              ap (part 2) first
              ∙ (cond-false (on 2 (change a)) (change (change a)) (change a) (and_right (is_owned tuple user (change a)) ((change a).family == 2) not_two)
              ∙ sym (cond-true (is_owned tuple user a) (change a) a owned))
          | inr two ↦
              let not_one : (a.family == 1) ≡ false = ap (λ (f : ℕ). f == 1) (eqb-true a.family 2 two) in
              let first : part 1 a ≡ a = cond-false (on 1 a) (change a) a (and_right (is_owned tuple user a) (a.family == 1) not_one) in
              ap (part 2) first
              ∙ (cond-true (on 2 a) (change a) a (and_from (is_owned tuple user a) (a.family == 2) owned two)
              ∙ sym (cond-true (is_owned tuple user a) (change a) a owned))
        ]
        | inr anothers ↦
            let first : part 1 a ≡ a = cond-false (on 1 a) (change a) a (and_left (is_owned tuple user a) (a.family == 1) anothers) in
            ap (part 2) first
            ∙ (cond-false (on 2 a) (change a) a (and_left (is_owned tuple user a) (a.family == 2) anothers)
            ∙ sym (cond-false (is_owned tuple user a) (change a) a anothers))
      ]

  pub changed_both : ListFollowsSlots → ListHasSlots → (slots : List (Option Relay)) → EachOf slots (λ _ r. is_family_of r ≡ true) → AreUsers slots
      → {at4 at6 : Option ℕ} {ipv4 ipv6 : Option Relay} → Found slots tuple 1 at4 ipv4 → Found slots tuple 2 at6 ipv6
      → listed (changed_at at6 change (changed_at at4 change slots)) ≡ map whole (listed slots)
  changed_both follows has slots families his {at4} {at6} four six =
      changed_one follows has (changed_at at4 change slots) 2 (users_after slots 1 his four) (found_after slots 1 2 refl four six)
      ∙ (ap (map (part 2)) (changed_one follows has slots 1 his four)
      ∙ map_twice (part 2) (part 1) whole (listed slots) (each_of (λ a. is_family_of a ≡ true) (λ a. part 2 (part 1 a) ≡ whole a) two_parts (listed slots) (has.all slots is_family_of families)))
