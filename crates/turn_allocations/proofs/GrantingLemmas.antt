-- What is asked of a client's places, and what a change there leaves.
use Rattle.std.proofs.Common.{◌≡◌, ℕ, Bool, true, false, not, cond, List, [], ◌∷◌, map, length, Option, None, Some, get_or, set, refl, sym, ap, ◌∙◌, subst, arith, eqb-true, eq-eqb, inl, inr}
use Rattle.std.specs.List.{AllByRecursion, list_any, list_all}
use Rattle.std.specs.Option.{option_map, option_map_or}
use Rattle.std.specs.Prelude.{◌&&◌, ◌||◌, ◌==◌, nat_lt}
use Rattle.std.proofs.lemmas.Bool.{cond_both, cond-true, cond-false, and_parts, and_from, and_left, false_from_ne_true, or_parts}
use Rattle.stun_endpoints.specs.declared.endpoints.Endpoint.{Endpoint}
use Rattle.stun_endpoints.specs.declared.endpoints.FiveTuple.{FiveTuple}
use Rattle.turn_machine.specs.Relays.{Relay, Setup, Rules, State, bound_for, is_of, is_for, is_users, is_owned}
use Rattle.turn_machine.specs.Events.{Request, answers, done, permit, bind, unfit, permit_request, most_peers}
use Rattle.turn_machine.specs.Rows.{row, with_permission_for, with_channel, has_any, has_of_another, is_of_another, own_rows, have_families, permit_rows, bind_rows, lacks_permissions, lacks_channels, is_bound_otherwise, is_channel_number}
use Rattle.turn_machine.specs.Opening.{has_of}
use Rattle.turn_machine.specs.Steps.{Step, keeping, refuses, serves, fulfils, changed, permitting, binding}
use Rattle.turn_relays.specs.Relayed.{Table, state_of, at_slot, with_slot, changed_slot}
use Rattle.turn_relays.specs.Following.{listed, EachOf, ListFollowsSlots}
use Rattle.turn_relays.specs.Listing.{ListHasSlots}
use Rattle.turn_allocations.specs.declared.answer.Answer.{Answer}
use Rattle.turn_allocations.specs.declared.answer.Answer.TheVariants.{Done, Refused}
use Rattle.turn_allocations.specs.declared.answer.Refusal.{Refusal}
use Rattle.turn_allocations.specs.declared.answer.Refusal.TheVariants.{InsufficientCapacity}
use Rattle.turn_allocations.specs.declared.client.Place.{Place}
use Rattle.turn_allocations.specs.declared.client.Client.{Client}
use Rattle.turn_allocations.specs.Answers.{answer_of, code_of}
use Rattle.turn_allocations.specs.Clients.{is_sound, AreSound, IsFound, in_place, Owns, Becomes}
use Rattle.turn_allocations.specs.Ending.{Numbers}
use Rattle.turn_allocations.specs.Granting.{any_at, lacks_room, HaveRoom, lacks_channel, changed_in}
use Rattle.turn_allocations.specs.Serving.{Serves, Appends, IsDone, or_else}
use Rattle.turn_allocations.proofs.OwnLemmas.{Within, any_kept, any_in}
use Rattle.turn_allocations.proofs.ClientLemmas.{slot_of, found_is, any_both, sound_slots}
use Rattle.turn_allocations.proofs.ChangingLemmas.{after_set, set_there, changed_at, changed_length, changed_is, each_of, Keeps, changed_both}
use Rattle.turn_allocations.proofs.EndingLemmas.{times_append}

-- ---- Tests

no_both : (b : Bool) → b ≡ true → b ≡ false → ⊥
no_both true is also = absurd cc
no_both false is also = absurd cc

or_none : (a : Bool) → (a || false) ≡ a
or_none true = refl
or_none false = refl

some_same : (r s : Relay) → Some r ≡ Some s → r ≡ s
some_same r s is = cc

-- ---- What the places have

any_as : (p q : Relay → Bool) (o : Option Relay) → ((r : Relay) → o ≡ Some r → p r ≡ q r) → any_in p o ≡ option_map_or q o false
any_as p q None same = refl
any_as p q (Some r) same = same r refl

of_place : (t : Table) (tuple : FiveTuple) (family : ℕ) (place : Option Place) → IsFound t tuple family place → (r : Relay) → in_place t place ≡ Some r → is_for tuple family r ≡ true
of_place t tuple family None none r there = absurd cc
of_place t tuple family (Some place) it r there =
    subst (λ (x : Relay). is_for tuple family x ≡ true) (some_same it.relay r (sym it.holds ∙ there)) it.is_its

is_of_it : (tuple : FiveTuple) (family : ℕ) (r : Relay) → is_for tuple family r ≡ true → is_of tuple r ≡ true
is_of_it tuple family r is = (and_parts (is_of tuple r) (r.family == family) is).0

-- the client's is the user's, unless one is another's
users_it : (tuple : FiveTuple) (user : ℕ) (r : Relay) → is_of tuple r ≡ true → is_of_another tuple user r ≡ false → is_users user r ≡ true
users_it tuple user r is mine = both (is_of tuple r) (is_users user r) is mine
  where
    both : (a b : Bool) → a ≡ true → (a && not b) ≡ false → b ≡ true
    both true true is mine = refl
    both true false is mine = absurd cc
    both false b is mine = absurd cc

another_within : (tuple : FiveTuple) (user : ℕ) → Within (is_of tuple) (is_of_another tuple user)
another_within tuple user a isnt = and_left (is_of tuple a) (not (is_users user a)) isnt

-- of the user's, those that pass a test
abbrev owned_and : FiveTuple → (user : ℕ) → (Relay → Bool) → Relay → Bool
owned_and tuple user q a = is_owned tuple user a && q a

and_true : (a b : Bool) → a ≡ true → (a && b) ≡ b
and_true true b is = refl
and_true false b is = absurd cc

module _ (t : Table) (tuple : FiveTuple) (client : Client) (owns : Owns t tuple client) where
  -- a test of the client's
  pub any_of : (q : Relay → Bool) → list_any (λ a. is_of tuple a && q a) (state_of t).relays ≡ (any_at q t client.ipv4 || any_at q t client.ipv6)
  any_of q =
      any_both t tuple client owns (λ a. is_of tuple a && q a) (λ a isnt. and_left (is_of tuple a) (q a) isnt)
      ∙ (ap (λ (b : Bool). b || any_in (λ a. is_of tuple a && q a) (in_place t client.ipv6)) (here 1 client.ipv4 owns.ipv4)
      ∙ ap (λ (b : Bool). any_at q t client.ipv4 || b) (here 2 client.ipv6 owns.ipv6))
    where
      here : (family : ℕ) (place : Option Place) → IsFound t tuple family place → any_in (λ a. is_of tuple a && q a) (in_place t place) ≡ any_at q t place
      here family place found = any_as (λ a. is_of tuple a && q a) q (in_place t place)
          (λ r there. and_true (is_of tuple r) (q r) (is_of_it tuple family r (of_place t tuple family place found r there)))

  module _ (user : ℕ) (mine : has_of_another tuple user (state_of t) ≡ false) where
    mine_places : (any_in (is_of_another tuple user) (in_place t client.ipv4) ≡ false) × (any_in (is_of_another tuple user) (in_place t client.ipv6) ≡ false)
    mine_places = or_parts (any_in (is_of_another tuple user) (in_place t client.ipv4)) (any_in (is_of_another tuple user) (in_place t client.ipv6))
        (sym (any_both t tuple client owns (is_of_another tuple user) (another_within tuple user)) ∙ mine)

    -- a test of the user's
    pub any_owned : (q : Relay → Bool) → list_any (λ a. is_owned tuple user a && q a) (state_of t).relays ≡ (any_at q t client.ipv4 || any_at q t client.ipv6)
    any_owned q =
        any_both t tuple client owns (owned_and tuple user q) (λ a isnt. and_left (is_owned tuple user a) (q a) (and_left (is_of tuple a) (is_users user a) isnt))
        ∙ (ap (λ (b : Bool). b || any_in (owned_and tuple user q) (in_place t client.ipv6)) (here 1 client.ipv4 owns.ipv4 mine_places.0)
        ∙ ap (λ (b : Bool). any_at q t client.ipv4 || b) (here 2 client.ipv6 owns.ipv6 mine_places.1))
      where
        here : (family : ℕ) (place : Option Place) → IsFound t tuple family place → any_in (is_of_another tuple user) (in_place t place) ≡ false → any_in (owned_and tuple user q) (in_place t place) ≡ any_at q t place
        here family place found his = any_as (owned_and tuple user q) q (in_place t place) (λ r there.
            let is = is_of_it tuple family r (of_place t tuple family place found r there) in
            and_true (is_owned tuple user r) (q r) (and_from (is_of tuple r) (is_users user r) is
            (users_it tuple user r is (sym (ap (any_in (is_of_another tuple user)) there) ∙ his))))

-- ---- What one family's place has

none_pass : (p : Relay → Bool) (rs : List Relay) → AllByRecursion (λ r. p r ≡ false) rs → list_any p rs ≡ false
none_pass p [] each = refl
none_pass p (r ∷ rs) each = ap (λ (b : Bool). b || list_any p rs) each.0 ∙ none_pass p rs each.1

each_not : (p : Relay → Bool) (rs : List Relay) → list_any p rs ≡ false → AllByRecursion (λ r. not (p r) ≡ true) rs
each_not p [] none = tt
each_not p (r ∷ rs) none =
    let parts = or_parts (p r) (list_any p rs) none in
    (ap not parts.0, each_not p rs parts.1)

not_true : (b : Bool) → not b ≡ true → b ≡ false
not_true true is = absurd cc
not_true false is = refl

-- what only those of a family pass is asked of its place
pub any_for : ListFollowsSlots → ListHasSlots → (t : Table) (tuple : FiveTuple) (family : ℕ) (place : Option Place) → IsFound t tuple family place → (p : Relay → Bool) → Within (is_for tuple family) p
    → list_any p (state_of t).relays ≡ any_in p (in_place t place)
any_for follows has t tuple family None none p within =
    none_pass p (listed t.slots) (follows.missing t.slots p (λ at r there. within r (none at r there)))
any_for follows has t tuple family (Some place) it p within =
    any_kept (is_for tuple family) p within (listed t.slots)
    ∙ (ap (list_any p) (has.one t.slots (is_for tuple family) place.slot it.relay it.holds it.is_its it.only)
    ∙ (or_none (p it.relay) ∙ ap (any_in p) (sym it.holds)))

-- each of the client's is the user's
pub are_users : ListHasSlots → (t : Table) (tuple : FiveTuple) (user : ℕ) → has_of_another tuple user (state_of t) ≡ false → EachOf t.slots (λ _ r. is_of tuple r ≡ true → is_users user r ≡ true)
are_users has t tuple user mine at r there is =
    users_it tuple user r is (not_true (is_of_another tuple user r)
    (has.each t.slots (λ a. not (is_of_another tuple user a)) (each_not (is_of_another tuple user) (listed t.slots) mine) at r there))

users_place : ListHasSlots → (t : Table) (tuple : FiveTuple) (user : ℕ) → has_of_another tuple user (state_of t) ≡ false → (place : Option Place) (r : Relay) → in_place t place ≡ Some r → is_of tuple r ≡ true → is_users user r ≡ true
users_place has t tuple user mine None r there is = absurd cc
users_place has t tuple user mine (Some place) r there is = are_users has t tuple user mine place.slot r there is

turned : (m n : ℕ) → (m == n) ≡ true → (n == m) ≡ true
turned m n is = eq-eqb n m (sym (eqb-true m n is))

-- one of the user's of this family
owned_for : (tuple : FiveTuple) (user family : ℕ) (a : Relay) → is_owned tuple user a ≡ true → (family == a.family) ≡ true → is_for tuple family a ≡ true
owned_for tuple user family a owned same =
    and_from (is_of tuple a) (a.family == family) (and_parts (is_of tuple a) (is_users user a) owned).0 (turned family a.family same)

-- a test of the user's of one family
pub any_owned_for : ListFollowsSlots → ListHasSlots → (t : Table) (tuple : FiveTuple) (user : ℕ) → has_of_another tuple user (state_of t) ≡ false → (family : ℕ) (place : Option Place) → IsFound t tuple family place
    → (q : Relay → Bool) → list_any (λ a. is_owned tuple user a && ((family == a.family) && q a)) (state_of t).relays ≡ any_at q t place
any_owned_for follows has t tuple user mine family place found q =
    any_for follows has t tuple family place found (owned_and tuple user (λ a. (family == a.family) && q a)) within
    ∙ any_as (owned_and tuple user (λ a. (family == a.family) && q a)) q (in_place t place) same
  where
    within : Within (is_for tuple family) (owned_and tuple user (λ a. (family == a.family) && q a))
    within a isnt = false_from_ne_true (is_owned tuple user a && ((family == a.family) && q a)) (λ is.
        let parts = and_parts (is_owned tuple user a) ((family == a.family) && q a) is in
        no_both (is_for tuple family a) (owned_for tuple user family a parts.0 (and_parts (family == a.family) (q a) parts.1).0) isnt)

    same : (r : Relay) → in_place t place ≡ Some r → (is_owned tuple user r && ((family == r.family) && q r)) ≡ q r
    same r there =
        let both = and_parts (is_of tuple r) (r.family == family) (of_place t tuple family place found r there) in
        let owned = and_from (is_of tuple r) (is_users user r) both.0 (users_place has t tuple user mine place r there both.0) in
        and_true (is_owned tuple user r) ((family == r.family) && q r) owned ∙ and_true (family == r.family) (q r) (turned r.family family both.1)

-- ---- Changes

pub changed_in_is : (place : Option Place) (change : Relay → Relay) (t : Table) → changed_in place change t ≡ record t { slots = changed_at (slot_of place) change t.slots }
changed_in_is None change t = refl
changed_in_is (Some place) change t = at_it (at_slot t place.slot)
  where
    at_it : (o : Option Relay) → option_map_or (λ r. with_slot place.slot (Some (change r)) t) o t ≡ record t { slots = option_map_or (λ r. set t.slots place.slot (Some (change r))) o t.slots }
    at_it None = refl
    at_it (Some r) = refl

-- a change that keeps what is sound
pub sound_after : ListHasSlots → (t : Table) (slot : ℕ) (change : Relay → Relay) → ((a : Relay) → is_sound t.clock (change a) ≡ is_sound t.clock a) → AreSound t → AreSound (changed_slot slot change t)
sound_after has t slot change same sound = after (at_slot t slot) refl
  where
    after : (o : Option Relay) → at_slot t slot ≡ o → AreSound (option_map_or (λ r. with_slot slot (Some (change r)) t) o t)
    after None is = sound
    after (Some r) is =
        has.all (set t.slots slot (Some (change r))) (is_sound t.clock) (λ at a there. elim (after_set t.slots slot (Some (change r)) at a there) [
          | inl here ↦
              subst (λ (x : Relay). is_sound t.clock x ≡ true) (some_same (change r) a here.1)
              (same r ∙ has.each t.slots (is_sound t.clock) sound slot r is)
          | inr away ↦ has.each t.slots (is_sound t.clock) sound at a away.1
        ])

-- the place of the other family stays
pub second_stays : (t : Table) (tuple : FiveTuple) (change : Relay → Relay) (one other : Option Place) → IsFound t tuple 1 one → IsFound t tuple 2 other → in_place (changed_in one change t) other ≡ in_place t other
second_stays t tuple change None other none found = refl
second_stays t tuple change (Some one) None it none = refl
second_stays t tuple change (Some one) (Some other) it its =
    let is : changed_slot one.slot change t ≡ with_slot one.slot (Some (change it.relay)) t = ap (λ (o : Option Relay). option_map_or (λ r. with_slot one.slot (Some (change r)) t) o t) it.holds in
    ap (λ (x : Table). at_slot x other.slot) is
    ∙ (set_there t.slots one.slot (Some (change it.relay)) other.slot its.relay apart its.holds ∙ sym its.holds)
  where
    apart : other.slot ≡ one.slot → ⊥
    apart same =
        let both : its.relay ≡ it.relay = some_same its.relay it.relay (sym its.holds ∙ (ap (λ (i : ℕ). get_or t.slots i None) same ∙ it.holds)) in
        let four = eqb-true it.relay.family 1 (and_parts (is_of tuple it.relay) (it.relay.family == 1) it.is_its).1 in
        let six = eqb-true its.relay.family 2 (and_parts (is_of tuple its.relay) (its.relay.family == 2) its.is_its).1 in
        let families = ap (λ (x : Relay). x.family) both in
        omega (arith, four, six, families)

-- all of the user's change, in both places
pub becomes_both : ListFollowsSlots → ListHasSlots → (t : Table) (tuple : FiveTuple) (user : ℕ) (client : Client) → Owns t tuple client → has_of_another tuple user (state_of t) ≡ false → AreSound t
    → (change : Relay → Relay) → ((a : Relay) → Keeps a (change a)) → Becomes t (changed_in client.ipv6 change (changed_in client.ipv4 change t)) (changed tuple user change (state_of t))
becomes_both follows has t tuple user client owns mine sound change keeps =
    let first = changed_at (slot_of client.ipv4) change t.slots in
    let both = changed_at (slot_of client.ipv6) change first in
    let is : changed_in client.ipv6 change (changed_in client.ipv4 change t) ≡ record t { slots = both } =
    ap (changed_in client.ipv6 change) (changed_in_is client.ipv4 change t) ∙ changed_in_is client.ipv6 change (record t { slots = first }) in
    subst (λ (x : Table). Becomes t x (changed tuple user change (state_of t))) (sym is) (record {
      state_is = ap (λ (rs : List Relay). record (state_of t) { relays = rs })
          (changed_both tuple user change keeps follows has t.slots (sound_slots has t sound) (are_users has t tuple user mine)
          (found_is t tuple 1 client.ipv4 owns.ipv4) (found_is t tuple 2 client.ipv6 owns.ipv6));
      slots = changed_length (slot_of client.ipv6) change first ∙ changed_length (slot_of client.ipv4) change t.slots;
    })

-- ---- A change for one family

map_same : (f : Relay → Relay) (rs : List Relay) → AllByRecursion (λ r. f r ≡ r) rs → map f rs ≡ rs
map_same f [] each = refl
map_same f (r ∷ rs) each = λ i. each.0 i ∷ map_same f rs each.1 i

-- this changes none of another family
abbrev pub IsOfFamily : (family : ℕ) → (Relay → Relay) → Type 0
IsOfFamily family change = (a : Relay) → (family == a.family) ≡ false → change a ≡ a

module _ (tuple : FiveTuple) (user family : ℕ) (change : Relay → Relay) (only : IsOfFamily family change) where
  abbrev own : Relay → Relay
  own a = cond (is_owned tuple user a) (change a) a

  stays : (a : Relay) → is_for tuple family a ≡ false → own a ≡ a
  stays a isnt =
      cond_both (is_owned tuple user a) (change a) a (λ b. b ≡ a)
      (λ owned. only a (false_from_ne_true (family == a.family) (λ same. no_both (is_for tuple family a) (owned_for tuple user family a owned same) isnt)))
      (λ _. refl)

  pub becomes_one : ListFollowsSlots → ListHasSlots → (t : Table) → has_of_another tuple user (state_of t) ≡ false → ((a : Relay) → (change a).number ≡ a.number)
      → (place : Option Place) → IsFound t tuple family place → Becomes t (changed_in place change t) (changed tuple user change (state_of t))
  becomes_one follows has t mine number None none = record {
    state_is = ap (λ (rs : List Relay). record (state_of t) { relays = rs })
        (sym (map_same own (listed t.slots) (each_of (λ a. is_for tuple family a ≡ false) (λ a. own a ≡ a) stays (listed t.slots) (follows.missing t.slots (is_for tuple family) none))));
    slots = refl;
  }
  becomes_one follows has t mine number (Some place) it =
      let r = it.relay in
      let both = and_parts (is_of tuple r) (r.family == family) it.is_its in
      let owned = and_from (is_of tuple r) (is_users user r) both.0 (are_users has t tuple user mine place.slot r it.holds both.0) in
      let here : own r ≡ change r = cond-true (is_owned tuple user r) (change r) r owned in
      let same : (a : Relay) → (own a).number ≡ a.number = λ a. cond_both (is_owned tuple user a) (change a) a (λ b. b.number ≡ a.number) (λ _. number a) (λ _. refl) in
      let list : listed (changed_at (Some place.slot) change t.slots) ≡ map own (listed t.slots) =
      ap listed (changed_is place.slot change t.slots r it.holds)
      ∙ (ap (λ (x : Relay). listed (set t.slots place.slot (Some x))) (sym here)
      ∙ follows.changed t.slots place.slot r own it.holds same
      (λ at other there away. stays other (false_from_ne_true (is_for tuple family other) (λ also. away (it.only at other there also))))) in
      subst (λ (x : Table). Becomes t x (changed tuple user change (state_of t))) (sym (changed_in_is (Some place) change t)) (record {
        state_is = ap (λ (rs : List Relay). record (state_of t) { relays = rs }) list;
        slots = changed_length (Some place.slot) change t.slots;
      })

-- ---- What is answered

appends_none : (ended : Numbers) → Appends ended ended []
appends_none ended = record {
  room = refl;
  numbers = λ n. let all = times_append n ended.numbers [] in omega (arith, all);
}

pub served : (setup : Setup) (rules : Rules) (tuple : FiveTuple) (user : ℕ) (request : Request) (old new : Table) (ended : Numbers) (answer : Answer) (state : State)
    → serves setup rules tuple user request (state_of old) ≡ keeping state (answers tuple (answer_of answer)) → Becomes old new state → Serves setup rules tuple user request old new ended ended answer
served setup rules tuple user request old new ended answer state is becomes = record {
  answered = ap (λ (s : Step). s.output) is;
  done = subst (λ (s : Step). IsDone s old new ended ended) (sym is) (record { becomes = becomes; closes = appends_none ended });
}

pub unchanged : (t : Table) → Becomes t t (state_of t)
unchanged t = record { state_is = refl; slots = refl }

-- the user's own, if no row of the owner's applies
pub mine_from : (tuple : FiveTuple) (user : ℕ) (state : State) → own_rows tuple user state None ≡ None → has_of_another tuple user state ≡ false
mine_from tuple user state = rows (has_any tuple state) (has_of_another tuple user state)
  where
    rows : (a b : Bool) → row (not a) 437 (row b 441 None) ≡ None → b ≡ false
    rows true true none = absurd cc
    rows true false none = refl
    rows false b none = absurd cc

-- ---- CreatePermission

-- refused for the owner's sake, however many peers it has
pub own_refuses : (setup : Setup) (rules : Rules) (tuple : FiveTuple) (user : ℕ) (peers : List Endpoint) (state : State) (code : ℕ) → ((others : Option ℕ) → own_rows tuple user state others ≡ Some code)
    → serves setup rules tuple user (permit_request peers) state ≡ refuses tuple state code
own_refuses setup rules tuple user peers state code own =
    cond_both (nat_lt most_peers (length peers)) (unfit 508) (permit peers) (λ request. serves setup rules tuple user request state ≡ refuses tuple state code)
    (λ _. ap (λ (o : Option ℕ). option_map_or (refuses tuple state) o (keeping state (answers tuple done))) (own (Some 508)))
    (λ _. ap (λ (o : Option ℕ). option_map_or (refuses tuple state) o (fulfils setup tuple user (permit peers) state)) (own (permit_rows setup rules state tuple user peers)))

pub too_many : (setup : Setup) (rules : Rules) (tuple : FiveTuple) (user : ℕ) (peers : List Endpoint) (state : State) → ((others : Option ℕ) → own_rows tuple user state others ≡ others) → nat_lt most_peers (length peers) ≡ true
    → serves setup rules tuple user (permit_request peers) state ≡ refuses tuple state 508
too_many setup rules tuple user peers state own many =
    ap (λ (request : Request). serves setup rules tuple user request state) (cond-true (nat_lt most_peers (length peers)) (unfit 508) (permit peers) many)
    ∙ ap (λ (o : Option ℕ). option_map_or (refuses tuple state) o (keeping state (answers tuple done))) (own (Some 508))

pub permits : (setup : Setup) (rules : Rules) (tuple : FiveTuple) (user : ℕ) (peers : List Endpoint) (state : State) → ((others : Option ℕ) → own_rows tuple user state others ≡ others) → nat_lt most_peers (length peers) ≡ false
    → (rows : Option ℕ) → rows ≡ permit_rows setup rules state tuple user peers
    → serves setup rules tuple user (permit_request peers) state ≡ option_map_or (refuses tuple state) rows (fulfils setup tuple user (permit peers) state)
permits setup rules tuple user peers state own few rows is =
    ap (λ (request : Request). serves setup rules tuple user request state) (cond-false (nat_lt most_peers (length peers)) (unfit 508) (permit peers) few)
    ∙ ap (λ (o : Option ℕ). option_map_or (refuses tuple state) o (fulfils setup tuple user (permit peers) state)) (own (permit_rows setup rules state tuple user peers) ∙ sym is)

-- what the code asks of room
pub both_room : (most : ℕ) (peers : List Endpoint) (t : Table) (client : Client) (one other : Bool) → one ≡ any_at (lacks_room most t.clock peers) t client.ipv4 → other ≡ any_at (lacks_room most t.clock peers) t client.ipv6
    → (one || other) ≡ false → HaveRoom most peers t client
both_room most peers t client one other one_is other_is none = let parts = or_parts one other none in (sym one_is ∙ parts.0, sym other_is ∙ parts.1)

-- a change in the first place takes no room in the second
pub second_room : (t : Table) (tuple : FiveTuple) (client : Client) → Owns t tuple client → (peers : List Endpoint) (most : ℕ) → HaveRoom most peers t client
    → (one : Table) → one ≡ changed_in client.ipv4 (permitting t.clock peers) t → any_at (lacks_room most one.clock peers) one client.ipv6 ≡ false
second_room t tuple client owns peers most rooms one is =
    let change = permitting t.clock peers in
    let half = changed_in client.ipv4 change t in
    ap (λ (x : Table). any_at (lacks_room most x.clock peers) x client.ipv6) is
    ∙ (ap (λ (n : ℕ). any_at (lacks_room most n peers) half client.ipv6) (ap (λ (x : Table). x.clock) (changed_in_is client.ipv4 change t))
    ∙ (ap (λ (o : Option Relay). option_map_or (lacks_room most t.clock peers) o false) (second_stays t tuple change client.ipv4 client.ipv6 owns.ipv4 owns.ipv6) ∙ rooms.1))

pub lacks_owned : (setup : Setup) (t : Table) (tuple : FiveTuple) (user : ℕ) (client : Client) → Owns t tuple client → has_of_another tuple user (state_of t) ≡ false → (peers : List Endpoint) (most : ℕ) → setup.most_permissions ≡ most
    → (any_at (lacks_room most t.clock peers) t client.ipv4 || any_at (lacks_room most t.clock peers) t client.ipv6) ≡ list_any (lacks_permissions setup t.clock tuple user peers) (state_of t).relays
lacks_owned setup t tuple user client owns mine peers most is =
    sym (any_owned t tuple client owns user mine (lacks_room most t.clock peers))
    ∙ ap (λ (m : ℕ). list_any (λ a. is_owned tuple user a && lacks_room m t.clock peers a) (state_of t).relays) (sym is)

-- ---- ChannelBind

pub binding_sound : (lifetime now number : ℕ) (peer : Endpoint) (a : Relay) → is_sound now (binding lifetime now number peer a) ≡ is_sound now a
binding_sound lifetime now number peer a =
    cond_both (peer.ip.family == a.family) (record a { permissions = with_permission_for lifetime now peer.ip a.permissions; channels = with_channel now number peer a.channels }) a
    (λ b. is_sound now b ≡ is_sound now a) (λ _. refl) (λ _. refl)

pub binding_number : (lifetime now number : ℕ) (peer : Endpoint) (a : Relay) → (binding lifetime now number peer a).number ≡ a.number
binding_number lifetime now number peer a =
    cond_both (peer.ip.family == a.family) (record a { permissions = with_permission_for lifetime now peer.ip a.permissions; channels = with_channel now number peer a.channels }) a
    (λ b. b.number ≡ a.number) (λ _. refl) (λ _. refl)

pub binding_only : (lifetime now number : ℕ) (peer : Endpoint) → IsOfFamily peer.ip.family (binding lifetime now number peer)
binding_only lifetime now number peer a apart =
    cond-false (peer.ip.family == a.family) (record a { permissions = with_permission_for lifetime now peer.ip a.permissions; channels = with_channel now number peer a.channels }) a apart

-- ---- The rows

abbrev permit_three : (a b c : Bool) → Option ℕ
permit_three a b c = row (not a) 443 (row (not b) 403 (row c 508 None))

module _ (setup : Setup) (rules : Rules) (state : State) (tuple : FiveTuple) (user : ℕ) (peers : List Endpoint) where
  abbrev first_row : Bool
  first_row = have_families tuple peers state

  abbrev second_row : Bool
  second_row = list_all (λ peer. rules.allows_ip peer.ip) peers

  abbrev third_row : Bool
  third_row = list_any (lacks_permissions setup state.clock tuple user peers) state.relays

  pub permit_443 : first_row ≡ false → Some 443 ≡ permit_rows setup rules state tuple user peers
  permit_443 one = ap (λ (b : Bool). permit_three b second_row third_row) (sym one)

  pub permit_403 : first_row ≡ true → second_row ≡ false → Some 403 ≡ permit_rows setup rules state tuple user peers
  permit_403 one two = ap (λ (b : Bool). permit_three true b third_row) (sym two) ∙ ap (λ (b : Bool). permit_three b second_row third_row) (sym one)

  pub permit_last : first_row ≡ true → second_row ≡ true → (b : Bool) → third_row ≡ b → row b 508 None ≡ permit_rows setup rules state tuple user peers
  permit_last one two b three =
      ap (λ (x : Bool). permit_three true true x) (sym three)
      ∙ (ap (λ (x : Bool). permit_three true x third_row) (sym two) ∙ ap (λ (x : Bool). permit_three x second_row third_row) (sym one))

abbrev bind_five : (number clash family allowed lacks : Bool) → Option ℕ
bind_five number clash family allowed lacks =
    row (not number) 400 (row clash 400 (row (not family) 443 (row (not allowed) 403 (row lacks 508 None))))

module _ (setup : Setup) (rules : Rules) (state : State) (tuple : FiveTuple) (user number : ℕ) (peer : Endpoint) where
  abbrev number_row : Bool
  number_row = is_channel_number setup number

  abbrev clash_row : Bool
  clash_row = list_any (is_bound_otherwise state.clock tuple number peer) state.relays

  abbrev family_row : Bool
  family_row = has_of tuple peer.ip.family state

  abbrev allowed_row : Bool
  allowed_row = rules.allows_ip peer.ip && rules.allows_port peer

  abbrev room_row : Bool
  room_row = list_any (lacks_permissions setup state.clock tuple user (peer ∷ [])) state.relays || list_any (lacks_channels setup state.clock tuple user number peer) state.relays

  pub bind_number : number_row ≡ false → Some 400 ≡ bind_rows setup rules state tuple user number peer
  bind_number one = ap (λ (b : Bool). bind_five b clash_row family_row allowed_row room_row) (sym one)

  from_number : number_row ≡ true → bind_five true clash_row family_row allowed_row room_row ≡ bind_rows setup rules state tuple user number peer
  from_number one = ap (λ (b : Bool). bind_five b clash_row family_row allowed_row room_row) (sym one)

  pub bind_clash : number_row ≡ true → clash_row ≡ true → Some 400 ≡ bind_rows setup rules state tuple user number peer
  bind_clash one two = ap (λ (b : Bool). bind_five true b family_row allowed_row room_row) (sym two) ∙ from_number one

  from_clash : number_row ≡ true → clash_row ≡ false → bind_five true false family_row allowed_row room_row ≡ bind_rows setup rules state tuple user number peer
  from_clash one two = ap (λ (b : Bool). bind_five true b family_row allowed_row room_row) (sym two) ∙ from_number one

  pub bind_family : number_row ≡ true → clash_row ≡ false → family_row ≡ false → Some 443 ≡ bind_rows setup rules state tuple user number peer
  bind_family one two three = ap (λ (b : Bool). bind_five true false b allowed_row room_row) (sym three) ∙ from_clash one two

  from_family : number_row ≡ true → clash_row ≡ false → family_row ≡ true → bind_five true false true allowed_row room_row ≡ bind_rows setup rules state tuple user number peer
  from_family one two three = ap (λ (b : Bool). bind_five true false b allowed_row room_row) (sym three) ∙ from_clash one two

  pub bind_allowed : number_row ≡ true → clash_row ≡ false → family_row ≡ true → allowed_row ≡ false → Some 403 ≡ bind_rows setup rules state tuple user number peer
  bind_allowed one two three four = ap (λ (b : Bool). bind_five true false true b room_row) (sym four) ∙ from_family one two three

  pub bind_last : number_row ≡ true → clash_row ≡ false → family_row ≡ true → allowed_row ≡ true → (b : Bool) → room_row ≡ b → row b 508 None ≡ bind_rows setup rules state tuple user number peer
  bind_last one two three four b five =
      ap (λ (x : Bool). bind_five true false true true x) (sym five)
      ∙ (ap (λ (x : Bool). bind_five true false true x room_row) (sym four) ∙ from_family one two three)

-- what the code asks of room is what the last row asks
pub bind_lacks : ListFollowsSlots → ListHasSlots → (setup : Setup) (t : Table) (tuple : FiveTuple) (user : ℕ) → has_of_another tuple user (state_of t) ≡ false → (number : ℕ) (peer : Endpoint) (place : Option Place) → IsFound t tuple peer.ip.family place
    → (permission channel : Bool) → permission ≡ list_any (lacks_permissions setup t.clock tuple user (peer ∷ [])) (state_of t).relays → channel ≡ any_at (lacks_channel setup.most_channels t.clock number peer) t place
    → (list_any (lacks_permissions setup t.clock tuple user (peer ∷ [])) (state_of t).relays || list_any (lacks_channels setup t.clock tuple user number peer) (state_of t).relays) ≡ (permission || channel)
bind_lacks follows has setup t tuple user mine number peer place found permission channel permission_is channel_is =
    ap (λ (b : Bool). b || list_any (lacks_channels setup t.clock tuple user number peer) (state_of t).relays) (sym permission_is)
    ∙ ap (λ (b : Bool). permission || b) (any_owned_for follows has t tuple user mine peer.ip.family place found (lacks_channel setup.most_channels t.clock number peer) ∙ sym channel_is)

-- ---- What is refused

module _ (setup : Setup) (rules : Rules) (t : Table) (tuple : FiveTuple) (user : ℕ) (fault : Option Refusal)
    (own : (others : Option ℕ) → own_rows tuple user (state_of t) others ≡ or_else (option_map code_of fault) others) (ended : Numbers) where
  -- by the owner's rows
  owner : (refusal : Refusal) → fault ≡ Some refusal → (others : Option ℕ) → own_rows tuple user (state_of t) others ≡ Some (code_of refusal)
  owner refusal is others = own others ∙ ap (λ (o : Option Refusal). or_else (option_map code_of o) others) is

  -- by no row of the owner's
  pub not_owner : fault ≡ None → (others : Option ℕ) → own_rows tuple user (state_of t) others ≡ others
  not_owner is others = own others ∙ ap (λ (o : Option Refusal). or_else (option_map code_of o) others) is

  pub mine_by : fault ≡ None → has_of_another tuple user (state_of t) ≡ false
  mine_by is = mine_from tuple user (state_of t) (not_owner is None)

  pub permit_owner : (peers : List Endpoint) (refusal : Refusal) → fault ≡ Some refusal → Serves setup rules tuple user (permit_request peers) t t ended ended (Refused refusal)
  permit_owner peers refusal is =
      served setup rules tuple user (permit_request peers) t t ended (Refused refusal) (state_of t)
      (own_refuses setup rules tuple user peers (state_of t) (code_of refusal) (owner refusal is)) (unchanged t)

  pub permit_many : (peers : List Endpoint) → fault ≡ None → nat_lt most_peers (length peers) ≡ true → Serves setup rules tuple user (permit_request peers) t t ended ended (Refused InsufficientCapacity)
  permit_many peers is many =
      served setup rules tuple user (permit_request peers) t t ended (Refused InsufficientCapacity) (state_of t)
      (too_many setup rules tuple user peers (state_of t) (not_owner is) many) (unchanged t)

  pub permit_refused : (peers : List Endpoint) → fault ≡ None → nat_lt most_peers (length peers) ≡ false → (rows : Option Refusal) → option_map code_of rows ≡ permit_rows setup rules (state_of t) tuple user peers
      → (refusal : Refusal) → rows ≡ Some refusal → Serves setup rules tuple user (permit_request peers) t t ended ended (Refused refusal)
  permit_refused peers is few rows by_rows refusal row_is =
      served setup rules tuple user (permit_request peers) t t ended (Refused refusal) (state_of t)
      (permits setup rules tuple user peers (state_of t) (not_owner is) few (Some (code_of refusal)) (ap (option_map code_of) (sym row_is) ∙ by_rows)) (unchanged t)

  pub bind_owner : (number : ℕ) (peer : Endpoint) (refusal : Refusal) → fault ≡ Some refusal → Serves setup rules tuple user (bind number peer) t t ended ended (Refused refusal)
  bind_owner number peer refusal is =
      served setup rules tuple user (bind number peer) t t ended (Refused refusal) (state_of t)
      (ap (λ (o : Option ℕ). option_map_or (refuses tuple (state_of t)) o (fulfils setup tuple user (bind number peer) (state_of t)))
      (owner refusal is (bind_rows setup rules (state_of t) tuple user number peer))) (unchanged t)

  pub bind_refused : (number : ℕ) (peer : Endpoint) → fault ≡ None → (rows : Option Refusal) → option_map code_of rows ≡ bind_rows setup rules (state_of t) tuple user number peer
      → (refusal : Refusal) → rows ≡ Some refusal → Serves setup rules tuple user (bind number peer) t t ended ended (Refused refusal)
  bind_refused number peer is rows by_rows refusal row_is =
      served setup rules tuple user (bind number peer) t t ended (Refused refusal) (state_of t)
      (ap (λ (o : Option ℕ). option_map_or (refuses tuple (state_of t)) o (fulfils setup tuple user (bind number peer) (state_of t)))
      (not_owner is (bind_rows setup rules (state_of t) tuple user number peer) ∙ (sym by_rows ∙ ap (option_map code_of) row_is))) (unchanged t)

-- ---- What is done

module _ (follows : ListFollowsSlots) (has : ListHasSlots) (setup : Setup) (rules : Rules) (t : Table) (tuple : FiveTuple) (user : ℕ) (client : Client) (owns : Owns t tuple client)
    (own : (others : Option ℕ) → own_rows tuple user (state_of t) others ≡ others) where
  mine : has_of_another tuple user (state_of t) ≡ false
  mine = mine_from tuple user (state_of t) (own None)

  pub permit_serves : AreSound t → (peers : List Endpoint) → nat_lt most_peers (length peers) ≡ false
      → (rows : Option Refusal) → rows ≡ None → option_map code_of rows ≡ permit_rows setup rules (state_of t) tuple user peers → (one new : Table)
      → one ≡ changed_in client.ipv4 (permitting t.clock peers) t → new ≡ changed_in client.ipv6 (permitting one.clock peers) one
      → (ended : Numbers) → Serves setup rules tuple user (permit_request peers) t new ended ended Done
  permit_serves sound peers few rows row_is by_rows one new one_is new_is ended =
      let none : None ≡ permit_rows setup rules (state_of t) tuple user peers = ap (option_map code_of) (sym row_is) ∙ by_rows in
      let change = permitting t.clock peers in
      let half = changed_in client.ipv4 change t in
      let clock : half.clock ≡ t.clock = ap (λ (x : Table). x.clock) (changed_in_is client.ipv4 change t) in
      let both : new ≡ changed_in client.ipv6 change half =
      new_is
      ∙ (ap (λ (x : Table). changed_in client.ipv6 (permitting x.clock peers) x) one_is
      ∙ ap (λ (n : ℕ). changed_in client.ipv6 (permitting n peers) half) clock) in
      served setup rules tuple user (permit_request peers) t new ended Done (changed tuple user change (state_of t))
      (permits setup rules tuple user peers (state_of t) own few None none)
      (subst (λ (x : Table). Becomes t x (changed tuple user change (state_of t))) (sym both)
      (becomes_both follows has t tuple user client owns mine sound change (λ a. record { tuple = refl; user = refl; family = refl; number = refl })))

  pub bind_serves : (number : ℕ) (peer : Endpoint) (place : Option Place) → IsFound t tuple peer.ip.family place → (lifetime : ℕ) → lifetime ≡ bound_for setup
      → (rows : Option Refusal) → rows ≡ None → option_map code_of rows ≡ bind_rows setup rules (state_of t) tuple user number peer → (new : Table)
      → new ≡ changed_in place (binding lifetime t.clock number peer) t
      → (ended : Numbers) → Serves setup rules tuple user (bind number peer) t new ended ended Done
  bind_serves number peer place found lifetime lasts rows row_is by_rows new new_is ended =
      let none : None ≡ bind_rows setup rules (state_of t) tuple user number peer = ap (option_map code_of) (sym row_is) ∙ by_rows in
      let change = binding (bound_for setup) t.clock number peer in
      let is : new ≡ changed_in place change t = new_is ∙ ap (λ (n : ℕ). changed_in place (binding n t.clock number peer) t) lasts in
      served setup rules tuple user (bind number peer) t new ended Done (changed tuple user change (state_of t))
      (ap (λ (o : Option ℕ). option_map_or (refuses tuple (state_of t)) o (fulfils setup tuple user (bind number peer) (state_of t)))
      (own (bind_rows setup rules (state_of t) tuple user number peer) ∙ sym none))
      (subst (λ (x : Table). Becomes t x (changed tuple user change (state_of t))) (sym is)
      (becomes_one tuple user peer.ip.family change (binding_only (bound_for setup) t.clock number peer) follows has t mine (binding_number (bound_for setup) t.clock number peer) place found))
