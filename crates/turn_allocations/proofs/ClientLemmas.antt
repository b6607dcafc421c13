-- What the code finds of a client is what the machine asks of it.
use Rattle.std.proofs.Common.{◌≡◌, ℕ, Bool, true, false, not, cond, List, [], ◌∷◌, map, find, Option, None, Some, refl, sym, ap, ◌∙◌, subst, arith, eqb-true, eq-eqb, min}
use Rattle.std.specs.List.{AllByRecursion, list_any}
use Rattle.std.specs.Option.{option_map, option_map_or}
use Rattle.std.specs.Prelude.{◌&&◌, ◌||◌, ◌==◌, nat_lt, option_and_then, is_some}
use Rattle.std.proofs.lemmas.Bool.{cond_both, cond-true, cond-false, and_parts, and_left}
use Rattle.stun_endpoints.specs.declared.endpoints.FiveTuple.{FiveTuple}
use Rattle.turn_machine.specs.Relays.{Relay, is_of, is_for, is_users, is_owned}
use Rattle.turn_machine.specs.Events.{Given as GivenAddress}
use Rattle.turn_machine.specs.Times.{first_end, earlier_of}
use Rattle.turn_machine.specs.Opening.{has_of, given_to}
use Rattle.turn_machine.specs.Rows.{has_any, has_of_another, is_of_another}
use Rattle.turn_relays.specs.Newest.{put, newest_first}
use Rattle.turn_relays.specs.Relayed.{Table, state_of, number_of}
use Rattle.turn_relays.specs.Following.{listed, EachOf}
use Rattle.turn_relays.specs.Listing.{ListHasSlots}
use Rattle.turn_allocations.specs.declared.client.Place.{Place}
use Rattle.turn_allocations.specs.declared.client.Client.{Client}
use Rattle.turn_allocations.specs.Answers.{given_in, given_list}
use Rattle.turn_allocations.specs.Clients.{Identity, identity_of, is_sound, AreSound, IsFound, in_place, place_any, given_at, Owns}
use Rattle.turn_allocations.specs.Requests.{number_in}
use Rattle.turn_allocations.proofs.OwnLemmas.{Within, any_kept, find_kept, first_kept, two, any_in, any_two, find_two_first, find_two_second, other_family, Found, free, alone, is_family_of}

-- ---- One place

-- the slot of a place
abbrev pub slot_of : Option Place → Option ℕ
slot_of place = option_map (λ p. p.slot) place

pub found_is : (t : Table) (tuple : FiveTuple) (family : ℕ) (place : Option Place) → IsFound t tuple family place → Found t.slots tuple family (slot_of place) (in_place t place)
found_is t tuple family None none = free none
found_is t tuple family (Some place) it =
    subst (λ (o : Option Relay). Found t.slots tuple family (Some place.slot) o) (sym it.holds)
    (alone place.slot it.relay (record { holds = it.holds; is_its = it.is_its; only = it.only }))

-- what is asked of the place is asked of what it has
pub any_place : (t : Table) (tuple : FiveTuple) (family : ℕ) (p : Relay → Bool) (q : Identity → Bool) → ((a : Relay) → is_of tuple a ≡ true → p a ≡ q (identity_of a))
    → (place : Option Place) → IsFound t tuple family place → any_in p (in_place t place) ≡ place_any q place
any_place t tuple family p q same None none = refl
any_place t tuple family p q same (Some place) it =
    ap (any_in p) it.holds
    ∙ (same it.relay (and_parts (is_of tuple it.relay) (it.relay.family == family) it.is_its).0
    ∙ ap q (sym it.shown))

-- one of another family isn't there
none_other : (t : Table) (tuple : FiveTuple) (family other : ℕ) → (family == other) ≡ false → (place : Option Place) → IsFound t tuple family place → any_in (is_for tuple other) (in_place t place) ≡ false
none_other t tuple family other apart None none = refl
none_other t tuple family other apart (Some place) it = ap (any_in (is_for tuple other)) it.holds ∙ other_family tuple it.relay family other it.is_its apart

-- one of the family is what is there
kept_place : (t : Table) (tuple : FiveTuple) (family : ℕ) (place : Option Place) → IsFound t tuple family place → option_and_then (λ r. cond (is_for tuple family r) (Some r) None) (in_place t place) ≡ in_place t place
kept_place t tuple family None none = refl
kept_place t tuple family (Some place) it =
    ap (λ (o : Option Relay). option_and_then (λ r. cond (is_for tuple family r) (Some r) None) o) it.holds
    ∙ (cond-true (is_for tuple family it.relay) (Some it.relay) None it.is_its ∙ sym it.holds)

any_it : (t : Table) (tuple : FiveTuple) (family : ℕ) (place : Option Place) → IsFound t tuple family place → any_in (is_for tuple family) (in_place t place) ≡ is_some place
any_it t tuple family None none = refl
any_it t tuple family (Some place) it = ap (any_in (is_for tuple family)) it.holds ∙ it.is_its

for_within : (tuple : FiveTuple) (family : ℕ) → Within (is_of tuple) (is_for tuple family)
for_within tuple family a isnt = and_left (is_of tuple a) (a.family == family) isnt

-- ---- All of a client

or_false : (a b : Bool) → b ≡ false → (a || b) ≡ a
or_false true b none = refl
or_false false b none = none

or_first : (a b : Bool) → a ≡ false → (a || b) ≡ b
or_first true b none = absurd cc
or_first false b none = refl

apart : (b : Bool) (n m : ℕ) → (n == m) ≡ b → (m == n) ≡ b
apart true n m is = eq-eqb m n (sym (eqb-true n m is))
apart false n m is = not_same (m == n) refl
  where
    not_same : (c : Bool) → (m == n) ≡ c → (m == n) ≡ false
    not_same true also = absurd (let same = eq-eqb n m (sym (eqb-true m n also)) in cc)
    not_same false also = also

module _ (t : Table) (tuple : FiveTuple) (client : Client) (owns : Owns t tuple client) where
  pub any_own : (p : Relay → Bool) (q : Identity → Bool) → Within (is_of tuple) p → ((a : Relay) → is_of tuple a ≡ true → p a ≡ q (identity_of a))
      → list_any p (state_of t).relays ≡ (place_any q client.ipv4 || place_any q client.ipv6)
  any_own p q within same =
      any_kept (is_of tuple) p within (listed t.slots)
      ∙ (ap (list_any p) owns.all
      ∙ (any_two p (in_place t client.ipv4) (in_place t client.ipv6)
      ∙ (ap (λ (b : Bool). b || any_in p (in_place t client.ipv6)) (any_place t tuple 1 p q same client.ipv4 owns.ipv4)
      ∙ ap (λ (b : Bool). place_any q client.ipv4 || b) (any_place t tuple 2 p q same client.ipv6 owns.ipv6))))

  -- of any two tests
  pub any_both : (p : Relay → Bool) → Within (is_of tuple) p → list_any p (state_of t).relays ≡ (any_in p (in_place t client.ipv4) || any_in p (in_place t client.ipv6))
  any_both p within =
      any_kept (is_of tuple) p within (listed t.slots)
      ∙ (ap (list_any p) owns.all ∙ any_two p (in_place t client.ipv4) (in_place t client.ipv6))

  pub find_first : find (is_for tuple 1) (state_of t).relays ≡ in_place t client.ipv4
  find_first =
      find_kept (is_of tuple) (is_for tuple 1) (for_within tuple 1) (listed t.slots)
      ∙ (ap (find (is_for tuple 1)) owns.all
      ∙ (find_two_first (is_for tuple 1) (in_place t client.ipv4) (in_place t client.ipv6) (none_other t tuple 2 1 refl client.ipv6 owns.ipv6)
      ∙ kept_place t tuple 1 client.ipv4 owns.ipv4))

  pub find_second : find (is_for tuple 2) (state_of t).relays ≡ in_place t client.ipv6
  find_second =
      find_kept (is_of tuple) (is_for tuple 2) (for_within tuple 2) (listed t.slots)
      ∙ (ap (find (is_for tuple 2)) owns.all
      ∙ (find_two_second (is_for tuple 2) (in_place t client.ipv4) (in_place t client.ipv6) (none_other t tuple 1 2 refl client.ipv4 owns.ipv4)
      ∙ kept_place t tuple 2 client.ipv6 owns.ipv6))

  pub has_first : has_of tuple 1 (state_of t) ≡ is_some client.ipv4
  has_first =
      any_both (is_for tuple 1) (for_within tuple 1)
      ∙ (or_false (any_in (is_for tuple 1) (in_place t client.ipv4)) (any_in (is_for tuple 1) (in_place t client.ipv6)) (none_other t tuple 2 1 refl client.ipv6 owns.ipv6)
      ∙ any_it t tuple 1 client.ipv4 owns.ipv4)

  pub has_second : has_of tuple 2 (state_of t) ≡ is_some client.ipv6
  has_second =
      any_both (is_for tuple 2) (for_within tuple 2)
      ∙ (or_first (any_in (is_for tuple 2) (in_place t client.ipv4)) (any_in (is_for tuple 2) (in_place t client.ipv6)) (none_other t tuple 1 2 refl client.ipv4 owns.ipv4)
      ∙ any_it t tuple 2 client.ipv6 owns.ipv6)

  -- of a third family it has none
  module _ (family : ℕ) (not_one : (family == 1) ≡ false) (not_two : (family == 2) ≡ false) where
    none_first : any_in (is_for tuple family) (in_place t client.ipv4) ≡ false
    none_first = none_other t tuple 1 family (apart false family 1 not_one) client.ipv4 owns.ipv4

    none_second : any_in (is_for tuple family) (in_place t client.ipv6) ≡ false
    none_second = none_other t tuple 2 family (apart false family 2 not_two) client.ipv6 owns.ipv6

    pub has_third : has_of tuple family (state_of t) ≡ false
    has_third =
        any_both (is_for tuple family) (for_within tuple family)
        ∙ (or_first (any_in (is_for tuple family) (in_place t client.ipv4)) (any_in (is_for tuple family) (in_place t client.ipv6)) none_first ∙ none_second)

    pub find_third : find (is_for tuple family) (state_of t).relays ≡ None
    find_third = find_none (is_for tuple family) (state_of t).relays has_third
      where
        find_none : (p : Relay → Bool) (rs : List Relay) → list_any p rs ≡ false → find p rs ≡ None
        find_none p [] none = refl
        find_none p (r ∷ rs) none =
            let parts = or_both (p r) (list_any p rs) none in
            cond-false (p r) (Some r) (find p rs) parts.0 ∙ find_none p rs parts.1
          where
            or_both : (a b : Bool) → (a || b) ≡ false → (a ≡ false) × (b ≡ false)
            or_both true b nay = absurd cc
            or_both false b nay = (refl, nay)

  -- ---- Whose it is

  pub none_own : not (is_some client.ipv4 || is_some client.ipv6) ≡ not (has_any tuple (state_of t))
  none_own =
      ap not (sym (any_own (is_of tuple) (λ i. true) (λ a isnt. isnt) (λ a is. is) ∙ both_some client.ipv4 client.ipv6))
    where
      both_some : (one other : Option Place) → (place_any (λ i. true) one || place_any (λ i. true) other) ≡ (is_some one || is_some other)
      both_some None None = refl
      both_some None (Some p) = refl
      both_some (Some p) None = refl
      both_some (Some p) (Some q) = refl

  pub anothers_own : (user : ℕ) → (place_any (λ i. not (i.user == user)) client.ipv4 || place_any (λ i. not (i.user == user)) client.ipv6) ≡ has_of_another tuple user (state_of t)
  anothers_own user =
      sym (any_own (is_of_another tuple user) (λ i. not (i.user == user)) (λ a isnt. and_left (is_of tuple a) (not (is_users user a)) isnt)
      (λ a is. ap (λ (b : Bool). b && not (is_users user a)) is))

  pub opened_own : (user id : ℕ) → (place_any (λ i. (i.user == user) && (i.transaction_id == id)) client.ipv4 || place_any (λ i. (i.user == user) && (i.transaction_id == id)) client.ipv6)
      ≡ list_any (λ a. is_owned tuple user a && (a.transaction_id == id)) (state_of t).relays
  opened_own user id =
      sym (any_own (λ a. is_owned tuple user a && (a.transaction_id == id)) (λ i. (i.user == user) && (i.transaction_id == id))
      (λ a isnt. and_left (is_owned tuple user a) (a.transaction_id == id) (and_left (is_of tuple a) (is_users user a) isnt))
      (λ a is. ap (λ (b : Bool). (b && is_users user a) && (a.transaction_id == id)) is))

  -- ---- Ends

  min_turned : (a b : ℕ) → min a b ≡ min b a
  min_turned a b = omega arith

  first_two : (one other : Option Relay) → ((r : Relay) → one ≡ Some r → is_of tuple r ≡ true) → ((r : Relay) → other ≡ Some r → is_of tuple r ≡ true)
      → first_end tuple (two one other) ≡ option_map_or (λ end. Some (earlier_of end (option_map (λ r. r.expires_at) other))) (option_map (λ r. r.expires_at) one) (option_map (λ r. r.expires_at) other)
  first_two None None first second = refl
  first_two None (Some s) first second = cond-true (is_of tuple s) (Some s.expires_at) None (second s refl)
  first_two (Some r) None first second = cond-true (is_of tuple r) (Some r.expires_at) None (first r refl)
  first_two (Some r) (Some s) first second =
      cond_both (nat_lt r.number s.number) (s ∷ put number_of r []) (r ∷ s ∷ []) (λ rs. first_end tuple rs ≡ Some (min r.expires_at s.expires_at))
      (λ _. cond-true (is_of tuple s) (Some (earlier_of s.expires_at (first_end tuple (r ∷ [])))) (first_end tuple (r ∷ [])) (second s refl)
      ∙ (ap (λ (o : Option ℕ). Some (earlier_of s.expires_at o)) (cond-true (is_of tuple r) (Some r.expires_at) None (first r refl))
      ∙ ap (λ (n : ℕ). Some n) (min_turned s.expires_at r.expires_at)))
      (λ _. cond-true (is_of tuple r) (Some (earlier_of r.expires_at (first_end tuple (s ∷ [])))) (first_end tuple (s ∷ [])) (first r refl)
      ∙ ap (λ (o : Option ℕ). Some (earlier_of r.expires_at o)) (cond-true (is_of tuple s) (Some s.expires_at) None (second s refl)))

  of_place : (family : ℕ) (place : Option Place) → IsFound t tuple family place → (r : Relay) → in_place t place ≡ Some r → is_of tuple r ≡ true
  of_place family None none r there = absurd cc
  of_place family (Some place) it r there =
      let same : it.relay ≡ r = cc in
      subst (λ (x : Relay). is_of tuple x ≡ true) same (and_parts (is_of tuple it.relay) (it.relay.family == family) it.is_its).0

  end_place : (family : ℕ) (place : Option Place) → IsFound t tuple family place → option_map (λ r. r.expires_at) (in_place t place) ≡ option_map (λ p. p.relayed.expires_at) place
  end_place family None none = refl
  end_place family (Some place) it =
      ap (option_map (λ (r : Relay). r.expires_at)) it.holds ∙ ap (λ (i : Identity). Some i.expires_at) (sym it.shown)

  pub first_own : first_end tuple (state_of t).relays
      ≡ option_map_or (λ end. Some (earlier_of end (option_map (λ p. p.relayed.expires_at) client.ipv6))) (option_map (λ p. p.relayed.expires_at) client.ipv4) (option_map (λ p. p.relayed.expires_at) client.ipv6)
  first_own =
      first_kept tuple (listed t.slots)
      ∙ (ap (first_end tuple) owns.all
      ∙ (first_two (in_place t client.ipv4) (in_place t client.ipv6) (of_place 1 client.ipv4 owns.ipv4) (of_place 2 client.ipv6 owns.ipv6)
      ∙ (ap (λ (o : Option ℕ). option_map_or (λ end. Some (earlier_of end o)) (option_map (λ r. r.expires_at) (in_place t client.ipv4)) o) (end_place 2 client.ipv6 owns.ipv6)
      ∙ ap (λ (o : Option ℕ). option_map_or (λ end. Some (earlier_of end (option_map (λ p. p.relayed.expires_at) client.ipv6))) o (option_map (λ p. p.relayed.expires_at) client.ipv6)) (end_place 1 client.ipv4 owns.ipv4))))

  -- ---- Numbers and addresses

  abbrev shown_of : Relay → GivenAddress
  shown_of a = record { family = a.family; number = a.number; address = a.address }

  map_two : (one other : Option Relay) → newest_first (λ (g : GivenAddress). g.number) (option_map shown_of one ∷ option_map shown_of other ∷ []) ≡ map shown_of (two one other)
  map_two None None = refl
  map_two None (Some s) = refl
  map_two (Some r) None = refl
  map_two (Some r) (Some s) = map_cond (nat_lt r.number s.number) (s ∷ r ∷ []) (r ∷ s ∷ [])
    where
      map_cond : (b : Bool) (rs ss : List Relay) → cond b (map shown_of rs) (map shown_of ss) ≡ map shown_of (cond b rs ss)
      map_cond true rs ss = refl
      map_cond false rs ss = refl

  given_place : (family : ℕ) (place : Option Place) → IsFound t tuple family place → option_map (given_in family) (option_map given_at place) ≡ option_map shown_of (in_place t place)
  given_place family None none = refl
  given_place family (Some place) it =
      let of_it = eqb-true it.relay.family family (and_parts (is_of tuple it.relay) (it.relay.family == family) it.is_its).1 in
      ap (λ (i : Identity). Some (record { family = family; number = i.number; address = i.address })) it.shown
      ∙ (ap (λ (f : ℕ). Some (record { family = f; number = it.relay.number; address = it.relay.address })) (sym of_it)
      ∙ ap (option_map shown_of) (sym it.holds))

  pub given_own : given_list (record { ipv4 = option_map given_at client.ipv4; ipv6 = option_map given_at client.ipv6 }) ≡ given_to tuple (state_of t)
  given_own =
      ap (λ (o : Option GivenAddress). newest_first (λ (g : GivenAddress). g.number) (o ∷ option_map (given_in 2) (option_map given_at client.ipv6) ∷ [])) (given_place 1 client.ipv4 owns.ipv4)
      ∙ (ap (λ (o : Option GivenAddress). newest_first (λ (g : GivenAddress). g.number) (option_map shown_of (in_place t client.ipv4) ∷ o ∷ [])) (given_place 2 client.ipv6 owns.ipv6)
      ∙ (map_two (in_place t client.ipv4) (in_place t client.ipv6)
      ∙ ap (map shown_of) (sym owns.all)))

  pub number_place : (family : ℕ) (place : Option Place) → IsFound t tuple family place → number_in (option_map given_at place) ≡ option_map_or (λ a. a.number) (in_place t place) 0
  number_place family None none = refl
  number_place family (Some place) it =
      ap (λ (i : Identity). i.number) it.shown ∙ ap (λ (o : Option Relay). option_map_or (λ a. a.number) o 0) (sym it.holds)

-- ---- None, in each slot

pub none_for : ListHasSlots → (t : Table) (tuple : FiveTuple) (family : ℕ) → has_of tuple family (state_of t) ≡ false → EachOf t.slots (λ _ r. is_for tuple family r ≡ false)
none_for has t tuple family none at r there =
    not_true (is_for tuple family r) (has.each t.slots (λ a. not (is_for tuple family a)) (each_not (listed t.slots) none) at r there)
  where
    not_true : (b : Bool) → not b ≡ true → b ≡ false
    not_true true is = absurd cc
    not_true false is = refl

    or_both : (a b : Bool) → (a || b) ≡ false → (a ≡ false) × (b ≡ false)
    or_both true b nay = absurd cc
    or_both false b nay = (refl, nay)

    each_not : (rs : List Relay) → list_any (is_for tuple family) rs ≡ false → AllByRecursion (λ a. not (is_for tuple family a) ≡ true) rs
    each_not [] nay = tt
    each_not (a ∷ rs) nay =
        let parts = or_both (is_for tuple family a) (list_any (is_for tuple family) rs) nay in
        (ap not parts.0, each_not rs parts.1)

-- ---- All that a client has

pub sound_slots : ListHasSlots → (t : Table) → AreSound t → EachOf t.slots (λ _ r. is_family_of r ≡ true)
sound_slots has t sound at r there =
    (and_parts (is_family_of r) _ (has.each t.slots (is_sound t.clock) sound at r there)).0
