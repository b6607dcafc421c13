-- Refresh requests: what ends, and what lasts.
use Rattle.std.proofs.Common.{◌≡◌, ℕ, ◌+◌, ◌≤◌, Bool, true, false, not, cond, List, [], ◌∷◌, ◌++◌, length, Option, None, Some, set, refl, sym, ap, ◌∙◌, subst, arith, inl, inr, eqb-true, eq-eqb, ne_eqb}
use Rattle.std.specs.Option.{option_map_or}
use Rattle.std.specs.Prelude.{◌⊎◌, ◌&&◌, ◌||◌, ◌==◌, nat_le, MatchOption}
use Rattle.std.proofs.lemmas.Bool.{cond_both, cond-true, cond-false, and_parts, and_from, or_cases, cases_Bool, false_from_ne_true, le-leb}
use Rattle.std.proofs.lemmas.List.{set-get_or}
use Rattle.stun_endpoints.specs.declared.endpoints.FiveTuple.{FiveTuple}
use Rattle.turn_machine.specs.Relays.{seconds, Relay, Setup, Rules, State, is_of, is_for, is_users, is_owned}
use Rattle.turn_machine.specs.Events.{refresh, Answer as MachineAnswer, refreshed, answers}
use Rattle.turn_machine.specs.Rows.{has_of_another, has_wanted, own_rows, row}
use Rattle.turn_machine.specs.Steps.{Step, changed, closing, is_wanted, lasting, keeping, refuses, refreshes, fulfils, serves}
use Rattle.turn_machine.specs.Times.{refreshed_for}
use Rattle.turn_machine.specs.Events.{nothing}
use Rattle.turn_relays.specs.Relayed.{Table, state_of, at_slot, with_slot, Holds}
use Rattle.turn_relays.specs.Following.{listed, ListFollowsSlots}
use Rattle.turn_relays.specs.Listing.{ListHasSlots}
use Rattle.turn_relays.specs.Facts.{NumbersAreDistinct}
use Rattle.turn_allocations.specs.declared.client.Place.{Place}
use Rattle.turn_allocations.specs.declared.client.Client.{Client}
use Rattle.turn_allocations.specs.Clients.{lifetime_max, is_sound, AreSound, IsFound, in_place, Owns, Becomes}
use Rattle.turn_allocations.specs.Ending.{Numbers}
use Rattle.turn_allocations.specs.Granting.{changed_in}
use Rattle.turn_allocations.specs.Refreshing.{if_wanted, ends_at, ended_in}
use Rattle.turn_allocations.specs.Serving.{IsDone, Serves}
use Rattle.turn_allocations.specs.Answers.{answer_of}
use Rattle.turn_allocations.specs.declared.answer.Answer.{Answer}
use Rattle.turn_allocations.proofs.ChangingLemmas.{after_set, set_there, Keeps}
use Rattle.turn_allocations.proofs.ClientLemmas.{sound_slots}
use Rattle.turn_allocations.proofs.GrantingLemmas.{are_users, becomes_both, second_stays, changed_in_is, served}
use Rattle.turn_allocations.proofs.SweepingLemmas.{Ending, ending_begins, ending_goes_on, ending_ends}

some_same : {X : Type 0} (x y : X) → Some x ≡ Some y → x ≡ y
some_same x y is = cc

differ : (b : Bool) → b ≡ true → b ≡ false → ⊥
differ true is also = absurd cc
differ false is also = absurd cc

-- ---- A request is for a family

-- what is in a place that is wanted is of a wanted family
wanted_is : (place : Option Place) (of : ℕ) (family : Option ℕ) (p : Place) → if_wanted place of family ≡ Some p → (r : Relay) → r.family ≡ of → (place ≡ Some p) × (is_wanted family r ≡ true)
wanted_is place of None p is r its = (is, refl)
wanted_is place of (Some f) p is r its = by_family (f == of) refl is
  where
    none_some : None ≡ Some p → ⊥
    none_some e = cc

    by_family : (b : Bool) → (f == of) ≡ b → cond (f == of) place None ≡ Some p → (place ≡ Some p) × ((r.family == f) ≡ true)
    by_family true same at = (sym (cond-true (f == of) place None same) ∙ at, eq-eqb r.family f (its ∙ sym (eqb-true f of same)))
    by_family false same at = absurd (none_some (sym (cond-false (f == of) place None same) ∙ at))

-- and the converse
wanted_at : (place : Option Place) (of : ℕ) (family : Option ℕ) (r : Relay) → r.family ≡ of → is_wanted family r ≡ true → if_wanted place of family ≡ place
wanted_at place of None r its wanted = refl
wanted_at place of (Some f) r its wanted = cond-true (f == of) place None (eq-eqb f of (sym (eqb-true r.family f wanted) ∙ its))

-- ---- Ends

-- what is still there
still : (place : Option Place) (t : Table) (at : ℕ) (r : Relay) → Holds (ended_in place t) at r → Holds t at r × ((p : Place) → place ≡ Some p → at ≡ p.slot → ⊥)
still None t at r there = (there, λ p is same. none_some p is)
  where
    none_some : (p : Place) → None ≡ Some p → ⊥
    none_some p e = cc
still (Some q) t at r there = elim (after_set t.slots q.slot None at r there) [
  | inl here ↦ absurd (none_some here.1)
  | inr away ↦ (away.1, λ p is same. away.0 (same ∙ ap (λ (x : Place). x.slot) (sym (some_same q p is))))
]
  where
    none_some : None ≡ Some r → ⊥
    none_some e = cc

-- each that ends passes
abbrev pub AllPass : (Relay → Bool) → Table → Option Place → Type 0
AllPass test t place = (p : Place) → place ≡ Some p → (r : Relay) × Holds t p.slot r × (test r ≡ true)

module _ (follows : ListFollowsSlots) (has : ListHasSlots) (test : Relay → Bool) (old : Table) (before : Numbers) where
  one_more : (t : Table) (so_far : Numbers) → Ending test old t before so_far → NumbersAreDistinct t → (place : Option Place) → AllPass test t place
      → (new : Table) → new ≡ ended_in place t → (after : Numbers) → MatchOption (in_place t place) (after ≡ so_far) (λ r. after ≡ record so_far { numbers = so_far.numbers ++ r.number ∷ [] }) → Ending test old new before after
  one_more t so_far e numbered None pass new is after also =
      subst (λ (x : Table). Ending test old x before after) (sym is) (subst (λ (n : Numbers). Ending test old t before n) (sym also) e)
  one_more t so_far e numbered (Some p) pass new is after also =
      let it = pass p refl in
      let pushed = subst (λ (o : Option Relay). MatchOption o (after ≡ so_far) (λ r. after ≡ record so_far { numbers = so_far.numbers ++ r.number ∷ [] })) it.1 also in
      ending_goes_on follows has test old before t so_far e numbered p.slot it.0 it.1 it.2 new is after pushed

module _ (follows : ListFollowsSlots) (has : ListHasSlots) (t : Table) (tuple : FiveTuple) (user : ℕ) (client : Client) (owns : Owns t tuple client)
    (mine : has_of_another tuple user (state_of t) ≡ false) (sound : AreSound t) (family : Option ℕ) where
  abbrev goes : Relay → Bool
  goes a = is_owned tuple user a && is_wanted family a

  goes_for : (of slot : ℕ) (r : Relay) → Holds t slot r → is_for tuple of r ≡ true → is_wanted family r ≡ true → goes r ≡ true
  goes_for of slot r there its wanted =
      let parts = and_parts (is_of tuple r) (r.family == of) its in
      and_from (is_owned tuple user r) (is_wanted family r) (and_from (is_of tuple r) (is_users user r) parts.0 (are_users has t tuple user mine slot r there parts.0)) wanted

  pass_in : (of : ℕ) (place : Option Place) → IsFound t tuple of place → AllPass goes t (if_wanted place of family)
  pass_in of None none p is = absurd (nowhere family is)
    where
      none_some : None ≡ Some p → ⊥
      none_some e = cc

      nowhere : (f : Option ℕ) → if_wanted None of f ≡ Some p → ⊥
      nowhere None e = none_some e
      nowhere (Some f) e = cond_both (f == of) None None (λ (o : Option Place). o ≡ Some p → ⊥) (λ _ x. none_some x) (λ _ x. none_some x) e
  pass_in of (Some q) it p is =
      let family_is = eqb-true it.relay.family of (and_parts (is_of tuple it.relay) (it.relay.family == of) it.is_its).1 in
      let wanted = wanted_is (Some q) of family p is it.relay family_is in
      let same = some_same q p wanted.0 in
      let there = subst (λ (x : Place). Holds t x.slot it.relay) same it.holds in
      (it.relay, there, goes_for of p.slot it.relay there it.is_its wanted.1)

  -- what is wanted and still there isn't the client's
  gone_in : (of : ℕ) (place : Option Place) → IsFound t tuple of place → (at : ℕ) (r : Relay) → Holds t at r → is_for tuple of r ≡ true → is_wanted family r ≡ true
      → ((p : Place) → if_wanted place of family ≡ Some p → at ≡ p.slot → ⊥) → ⊥
  gone_in of None none at r there its wanted away = differ (is_for tuple of r) its (none at r there)
  gone_in of (Some q) it at r there its wanted away =
      let family_is = eqb-true r.family of (and_parts (is_of tuple r) (r.family == of) its).1 in
      away q (wanted_at (Some q) of family r family_is wanted) (it.only at r there its)

  pub wanted_end : (before first_ended ended : Numbers) (first new : Table) → length before.numbers + length (listed t.slots) ≤ before.room → NumbersAreDistinct t → NumbersAreDistinct first
      → first ≡ ended_in (if_wanted client.ipv4 1 family) t → MatchOption (in_place t (if_wanted client.ipv4 1 family)) (first_ended ≡ before) (λ r. first_ended ≡ record before { numbers = before.numbers ++ r.number ∷ [] })
      → new ≡ ended_in (if_wanted client.ipv6 2 family) first → MatchOption (in_place first (if_wanted client.ipv6 2 family)) (ended ≡ first_ended) (λ r. ended ≡ record first_ended { numbers = first_ended.numbers ++ r.number ∷ [] })
      → IsDone (closing goes nothing (state_of t)) t new before ended
  wanted_end before first_ended ended first new room numbered numbered_too first_is first_also new_is new_also =
      let four = if_wanted client.ipv4 1 family in
      let six = if_wanted client.ipv6 2 family in
      let begun = ending_begins goes t before room in
      let one = one_more follows has goes t before t before begun numbered four (pass_in 1 client.ipv4 owns.ipv4) first first_is first_ended first_also in
      let pass : AllPass goes first six = λ p is.
      let it = pass_in 2 client.ipv6 owns.ipv6 p is in
      (it.0, subst (λ (x : Table). Holds x p.slot it.0) (sym first_is) (stays four p it.0 it.1 (pass_in 1 client.ipv4 owns.ipv4) (apart p it.0 it.1 is)), it.2) in
      let two = one_more follows has goes t before first first_ended one numbered_too six pass new new_is ended new_also in
      ending_ends follows has goes t before new ended two (λ at r there.
      let last = still six first at r (subst (λ (x : Table). Holds x at r) new_is there) in
      let before_it = still four t at r (subst (λ (x : Table). Holds x at r) first_is last.0) in
      false_from_ne_true (goes r) (λ so.
      let parts = and_parts (is_owned tuple user r) (is_wanted family r) so in
      let of_it = (and_parts (is_of tuple r) (is_users user r) parts.0).0 in
      elim (or_cases (r.family == 1) (r.family == 2) (sound_slots has t sound at r before_it.0)) [
        | inl is_one ↦ gone_in 1 client.ipv4 owns.ipv4 at r before_it.0 (and_from (is_of tuple r) (r.family == 1) of_it is_one) parts.1 before_it.1
        | inr is_two ↦ gone_in 2 client.ipv6 owns.ipv6 at r before_it.0 (and_from (is_of tuple r) (r.family == 2) of_it is_two) parts.1 last.1
      ]))
    where
      -- what is in another slot stays
      stays : (place : Option Place) (p : Place) (r : Relay) → Holds t p.slot r → AllPass goes t place → ((q : Place) → place ≡ Some q → p.slot ≡ q.slot → ⊥) → Holds (ended_in place t) p.slot r
      stays None p r there pass away = there
      stays (Some q) p r there pass away = set_there t.slots q.slot None p.slot r (away q refl) there

      in_six : (q p : Place) → if_wanted client.ipv6 2 family ≡ Some p → (r : Relay) → Holds t p.slot r → r.family ≡ 2
      in_six q p is r there = of_place client.ipv6 owns.ipv6 is
        where
          of_place : (place : Option Place) → IsFound t tuple 2 place → if_wanted place 2 family ≡ Some p → r.family ≡ 2
          of_place None none e = absurd (nowhere family e)
            where
              none_some : None ≡ Some p → ⊥
              none_some x = cc

              nowhere : (f : Option ℕ) → if_wanted None 2 f ≡ Some p → ⊥
              nowhere None x = none_some x
              nowhere (Some f) x = cond_both (f == 2) None None (λ (o : Option Place). o ≡ Some p → ⊥) (λ _ y. none_some y) (λ _ y. none_some y) x
          of_place (Some s) it e =
              let family_is = eqb-true it.relay.family 2 (and_parts (is_of tuple it.relay) (it.relay.family == 2) it.is_its).1 in
              let same = some_same s p (wanted_is (Some s) 2 family p e it.relay family_is).0 in
              let one : it.relay ≡ r = some_same it.relay r (sym it.holds ∙ (ap (λ (x : Place). at_slot t x.slot) same ∙ there)) in
              ap (λ (x : Relay). x.family) (sym one) ∙ family_is

      in_four : (q : Place) → if_wanted client.ipv4 1 family ≡ Some q → (r : Relay) → Holds t q.slot r → r.family ≡ 1
      in_four q is r there = of_place client.ipv4 owns.ipv4 is
        where
          of_place : (place : Option Place) → IsFound t tuple 1 place → if_wanted place 1 family ≡ Some q → r.family ≡ 1
          of_place None none e = absurd (nowhere family e)
            where
              none_some : None ≡ Some q → ⊥
              none_some x = cc

              nowhere : (f : Option ℕ) → if_wanted None 1 f ≡ Some q → ⊥
              nowhere None x = none_some x
              nowhere (Some f) x = cond_both (f == 1) None None (λ (o : Option Place). o ≡ Some q → ⊥) (λ _ y. none_some y) (λ _ y. none_some y) x
          of_place (Some s) it e =
              let family_is = eqb-true it.relay.family 1 (and_parts (is_of tuple it.relay) (it.relay.family == 1) it.is_its).1 in
              let same = some_same s q (wanted_is (Some s) 1 family q e it.relay family_is).0 in
              let one : it.relay ≡ r = some_same it.relay r (sym it.holds ∙ (ap (λ (x : Place). at_slot t x.slot) same ∙ there)) in
              ap (λ (x : Relay). x.family) (sym one) ∙ family_is

      apart : (p : Place) (r : Relay) → Holds t p.slot r → if_wanted client.ipv6 2 family ≡ Some p → (q : Place) → if_wanted client.ipv4 1 family ≡ Some q → p.slot ≡ q.slot → ⊥
      apart p r there is q also same =
          let six = in_six q p is r there in
          let four = in_four q also r (subst (λ (i : ℕ). at_slot t i ≡ Some r) same there) in
          omega (arith, six, four)

  -- ---- Another end

  lasting_keeps : (end : ℕ) (a : Relay) → Keeps a (lasting family end a)
  lasting_keeps end a =
      cond_both (is_wanted family a) (ends_at end a) a (λ b. Keeps a b)
      (λ _. record { tuple = refl; user = refl; family = refl; number = refl })
      (λ _. record { tuple = refl; user = refl; family = refl; number = refl })

  slot_same : (x : Table) (slot : ℕ) (r : Relay) → at_slot x slot ≡ Some r → with_slot slot (Some r) x ≡ x
  slot_same x slot r there =
      ap (λ (o : Option Relay). record x { slots = set x.slots slot o }) (sym there)
      ∙ ap (λ (ss : List (Option Relay)). record x { slots = ss }) (set-get_or x.slots slot None)

  lasting_in : (end of : ℕ) (x : Table) (place : Option Place) → ((p : Place) → place ≡ Some p → (r : Relay) × (at_slot x p.slot ≡ Some r) × (r.family ≡ of))
      → changed_in (if_wanted place of family) (ends_at end) x ≡ changed_in place (lasting family end) x
  lasting_in end of x None in_it = nothing_in family
    where
      nothing_in : (f : Option ℕ) → changed_in (if_wanted None of f) (ends_at end) x ≡ x
      nothing_in None = refl
      nothing_in (Some f) = cond_both (f == of) None None (λ (o : Option Place). changed_in o (ends_at end) x ≡ x) (λ _. refl) (λ _. refl)
  lasting_in end of x (Some p) in_it = by_wanted (cases_Bool (is_wanted family (in_it p refl).0))
    where
      changes : (change : Relay → Relay) (r : Relay) → at_slot x p.slot ≡ Some r → changed_in (Some p) change x ≡ with_slot p.slot (Some (change r)) x
      changes change r there = ap (λ (o : Option Relay). option_map_or (λ a. with_slot p.slot (Some (change a)) x) o x) there

      not_wanted : (f : Option ℕ) (r : Relay) → r.family ≡ of → is_wanted f r ≡ false → if_wanted (Some p) of f ≡ None
      not_wanted None r its is = absurd cc
      not_wanted (Some f) r its is = cond-false (f == of) (Some p) None (false_from_ne_true (f == of) (λ same. differ (r.family == f) (eq-eqb r.family f (its ∙ sym (eqb-true f of same))) is))

      by_wanted : (is_wanted family (in_it p refl).0 ≡ true) ⊎ (is_wanted family (in_it p refl).0 ≡ false) → changed_in (if_wanted (Some p) of family) (ends_at end) x ≡ changed_in (Some p) (lasting family end) x
      by_wanted (inl wanted) =
          let it = in_it p refl in
          ap (λ (o : Option Place). changed_in o (ends_at end) x) (wanted_at (Some p) of family it.0 it.2 wanted)
          ∙ (changes (ends_at end) it.0 it.1
          ∙ (ap (λ (r : Relay). with_slot p.slot (Some r) x) (sym (cond-true (is_wanted family it.0) (ends_at end it.0) it.0 wanted))
          ∙ sym (changes (lasting family end) it.0 it.1)))
      by_wanted (inr isnt) =
          let it = in_it p refl in
          ap (λ (o : Option Place). changed_in o (ends_at end) x) (not_wanted family it.0 it.2 isnt)
          ∙ (sym (slot_same x p.slot it.0 it.1)
          ∙ (ap (λ (r : Relay). with_slot p.slot (Some r) x) (sym (cond-false (is_wanted family it.0) (ends_at end it.0) it.0 isnt))
          ∙ sym (changes (lasting family end) it.0 it.1)))

  found_in : (of : ℕ) (place : Option Place) → IsFound t tuple of place → (p : Place) → place ≡ Some p → (r : Relay) × (at_slot t p.slot ≡ Some r) × (r.family ≡ of)
  found_in of None none p is = absurd (none_some is)
    where
      none_some : None ≡ Some p → ⊥
      none_some e = cc
  found_in of (Some q) it p is =
      let same = some_same q p is in
      (it.relay, subst (λ (x : Place). Holds t x.slot it.relay) same it.holds, eqb-true it.relay.family of (and_parts (is_of tuple it.relay) (it.relay.family == of) it.is_its).1)

  pub wanted_last : (end : ℕ) (new : Table) → new ≡ changed_in (if_wanted client.ipv6 2 family) (ends_at end) (changed_in (if_wanted client.ipv4 1 family) (ends_at end) t)
      → Becomes t new (changed tuple user (lasting family end) (state_of t))
  wanted_last end new is =
      let first = lasting_in end 1 t client.ipv4 (found_in 1 client.ipv4 owns.ipv4) in
      let t1 = changed_in client.ipv4 (lasting family end) t in
      let in_six : (p : Place) → client.ipv6 ≡ Some p → (r : Relay) × (at_slot t1 p.slot ≡ Some r) × (r.family ≡ 2) = λ p at.
      let it = found_in 2 client.ipv6 owns.ipv6 p at in
      (it.0, same_there p at ∙ it.1, it.2) in
      let second = lasting_in end 2 t1 client.ipv6 in_six in
      subst (λ (x : Table). Becomes t x (changed tuple user (lasting family end) (state_of t))) (sym (is ∙ (ap (changed_in (if_wanted client.ipv6 2 family) (ends_at end)) first ∙ second)))
      (becomes_both follows has t tuple user client owns mine sound (lasting family end) (lasting_keeps end))
    where
      same_there : (p : Place) → client.ipv6 ≡ Some p → at_slot (changed_in client.ipv4 (lasting family end) t) p.slot ≡ at_slot t p.slot
      same_there p at =
          ap (in_place (changed_in client.ipv4 (lasting family end) t)) (sym at)
          ∙ (second_stays t tuple (lasting family end) client.ipv4 client.ipv6 owns.ipv4 owns.ipv6 ∙ ap (in_place t) at)

-- ---- What is answered

module _ (setup : Setup) (rules : Rules) (tuple : FiveTuple) (user : ℕ) (family lifetime : Option ℕ) (state : State) where
  pub fulfilled : ((others : Option ℕ) → own_rows tuple user state others ≡ others) → has_wanted tuple family state ≡ true
      → serves setup rules tuple user (refresh family lifetime) state ≡ refreshes tuple user family (refreshed_for lifetime setup.greatest_lifetime) state
  fulfilled own has_it =
      ap (λ (o : Option ℕ). option_map_or (refuses tuple state) o (fulfils setup tuple user (refresh family lifetime) state))
      (own (row (not (has_wanted tuple family state)) 443 None) ∙ ap (λ (b : Bool). row (not b) 443 None) has_it)

-- ---- Another end is sound

pub sound_ends : ListHasSlots → (t : Table) (place : Option Place) (end : ℕ) → end ≤ t.clock + seconds lifetime_max → AreSound t → AreSound (changed_in place (ends_at end) t)
sound_ends has t None end le sound = sound
sound_ends has t (Some p) end le sound = after (at_slot t p.slot) refl
  where
    lasts : (r : Relay) → is_sound t.clock r ≡ true → is_sound t.clock (ends_at end r) ≡ true
    lasts r so =
        let parts = and_parts ((r.family == 1) || (r.family == 2)) (nat_le r.expires_at (t.clock + seconds lifetime_max)) so in
        and_from ((r.family == 1) || (r.family == 2)) (nat_le end (t.clock + seconds lifetime_max)) parts.0 (le-leb end (t.clock + seconds lifetime_max) le)

    after : (o : Option Relay) → at_slot t p.slot ≡ o → AreSound (option_map_or (λ r. with_slot p.slot (Some (ends_at end r)) t) o t)
    after None is = sound
    after (Some r) is =
        has.all (set t.slots p.slot (Some (ends_at end r))) (is_sound t.clock) (λ at a there. elim (after_set t.slots p.slot (Some (ends_at end r)) at a there) [
          | inl here ↦
              subst (λ (x : Relay). is_sound t.clock x ≡ true) (some_same (ends_at end r) a here.1)
              (lasts r (has.each t.slots (is_sound t.clock) sound p.slot r is))
          | inr away ↦ has.each t.slots (is_sound t.clock) sound at a away.1
        ])

pub clock_kept : (place : Option Place) (change : Relay → Relay) (t : Table) → (changed_in place change t).clock ≡ t.clock
clock_kept place change t = ap (λ (x : Table). x.clock) (changed_in_is place change t)

-- ---- The whole answer

pub served_by : (setup : Setup) (rules : Rules) (tuple : FiveTuple) (user : ℕ) (family lifetime : Option ℕ) (old new : Table) (before after : Numbers) (seconds_left : ℕ)
    → refreshed_for lifetime setup.greatest_lifetime ≡ seconds_left → serves setup rules tuple user (refresh family lifetime) (state_of old) ≡ refreshes tuple user family (refreshed_for lifetime setup.greatest_lifetime) (state_of old)
    → ((seconds_left ≡ 0) × IsDone (closing (λ a. is_owned tuple user a && is_wanted family a) nothing (state_of old)) old new before after)
    ⊎ ((seconds_left ≡ 0 → ⊥) × Becomes old new (changed tuple user (lasting family (old.clock + seconds seconds_left)) (state_of old)) × (after ≡ before))
    → (answer : Answer) → answer_of answer ≡ refreshed seconds_left → Serves setup rules tuple user (refresh family lifetime) old new before after answer
served_by setup rules tuple user family lifetime old new before after seconds_left left is which answer says =
    elim which [
      | inl ends ↦
          let step : serves setup rules tuple user (refresh family lifetime) (state_of old) ≡ closing (λ a. is_owned tuple user a && is_wanted family a) (answers tuple (refreshed seconds_left)) (state_of old) =
          is ∙ (ap (λ (n : ℕ). refreshes tuple user family n (state_of old)) left
          ∙ cond-true (seconds_left == 0) (closing (λ a. is_owned tuple user a && is_wanted family a) (answers tuple (refreshed seconds_left)) (state_of old)) (keeping (changed tuple user (lasting family (old.clock + seconds seconds_left)) (state_of old)) (answers tuple (refreshed seconds_left))) (eq-eqb seconds_left 0 ends.0)) in
          record {
            answered = ap (λ (s : Step). s.output) step ∙ ap (answers tuple) (sym says);
            done = subst (λ (s : Step). IsDone s old new before after) (sym step) (record { becomes = ends.1.becomes; closes = ends.1.closes });
          }
      | inr lasts ↦
          let step : serves setup rules tuple user (refresh family lifetime) (state_of old) ≡ keeping (changed tuple user (lasting family (old.clock + seconds seconds_left)) (state_of old)) (answers tuple (refreshed seconds_left)) =
          is ∙ (ap (λ (n : ℕ). refreshes tuple user family n (state_of old)) left
          ∙ cond-false (seconds_left == 0) (closing (λ a. is_owned tuple user a && is_wanted family a) (answers tuple (refreshed seconds_left)) (state_of old)) (keeping (changed tuple user (lasting family (old.clock + seconds seconds_left)) (state_of old)) (answers tuple (refreshed seconds_left))) (ne_eqb seconds_left 0 lasts.0)) in
          subst (λ (n : Numbers). Serves setup rules tuple user (refresh family lifetime) old new before n answer) (sym lasts.2)
          (served setup rules tuple user (refresh family lifetime) old new before answer (changed tuple user (lasting family (old.clock + seconds seconds_left)) (state_of old))
          (step ∙ ap (λ (a : MachineAnswer). keeping (changed tuple user (lasting family (old.clock + seconds seconds_left)) (state_of old)) (answers tuple a)) (sym says)) lasts.1)
    ]
