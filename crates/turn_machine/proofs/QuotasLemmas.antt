-- If the quotas fit into the room, there is room for each user that is below the quota.
use Rattle.std.proofs.Common.{◌≡◌, ℕ, ◌+◌, ◌*◌, ◌≤◌, inl, inr, Bool, true, false, not, cond, List, [], ◌∷◌, length, Option, None, Some, refl, sym, ap, ◌∙◌, subst, ltb-true, zero-le, arith, eqb-true}
use Rattle.std.specs.List.{AllByRecursion, list_any}
use Rattle.std.specs.Prelude.{◌==◌, ◌||◌, ◌&&◌, max, count_by, is_some, ◌⊎◌}
use Rattle.std.proofs.lemmas.Bool.{or_cases, false≢true, lt-ltb}
use Rattle.stun_endpoints.specs.declared.endpoints.FiveTuple.{FiveTuple}
use Rattle.turn_machine.specs.Relays.{Relay, Setup, Rules, State, is_live, is_users, has_room, has_quota, bound_for}
use Rattle.turn_machine.specs.Events.{Offer, Want, allocate, asks, answers, refused}
use Rattle.turn_machine.specs.Times.{at}
use Rattle.turn_machine.specs.Rows.{row, has_any, is_offered, is_ready, allocate_rows}
use Rattle.turn_machine.specs.Steps.{lasting, permitting, binding, step}
use Rattle.turn_machine.specs.Runs.{Timed, run}
use Rattle.turn_machine.specs.Quotas.{IsOneOf, AreBy}
use Rattle.turn_machine.specs.Refusals.{IsUnready}
use Rattle.turn_machine.proofs.ListsLemmas.{each_map, each_filter, any_none, count_cons, count_filter}
use Rattle.turn_machine.proofs.RowsLemmas.{unlike}
use Rattle.turn_machine.proofs.FaultLemmas.{refused_for}
use Rattle.turn_machine.proofs.KeepingLemmas.{Keeps, run_keeps_by}
use Rattle.turn_machine.proofs.KeptLemmas.{each_changed, lasting_same, binding_same, run_quota}

-- ---- Each kept address is some user's

abbrev AreOf : List ℕ → State → Type 0
AreOf users state = AllByRecursion (λ a. IsOneOf users a.user) state.relays

of_kept : (setup : Setup) (users : List ℕ) → Keeps setup (IsOneOf users) (AreOf users)
of_kept setup users = record {
  time = λ now state each. each_filter (λ a. IsOneOf users a.user) (is_live (max state.clock now)) state.relays each;
  opened = λ tuple user id expires_at want offer state who later can each. (who, each);
  ended = λ test state each. each_filter (λ a. IsOneOf users a.user) (λ a. not (test a)) state.relays each;
  lasted = λ tuple user family expires_at state later each. each_changed (λ a. IsOneOf users a.user) (λ a. IsOneOf users a.user) tuple user (lasting family expires_at) state (λ a w. w)
      (λ a _ w. subst (IsOneOf users) (sym (lasting_same (λ b. b.user) family expires_at (λ _. refl) a)) w) each;
  permitted = λ rules tuple user peers state fit each. each_changed (λ a. IsOneOf users a.user) (λ a. IsOneOf users a.user) tuple user (permitting state.clock peers) state (λ a w. w) (λ a _ w. w) each;
  bound = λ rules tuple user number peer state fit each. each_changed (λ a. IsOneOf users a.user) (λ a. IsOneOf users a.user) tuple user (binding (bound_for setup) state.clock number peer) state (λ a w. w)
      (λ a _ w. subst (IsOneOf users) (sym (binding_same (λ b. b.user) (bound_for setup) state.clock number peer (λ _. refl) a)) w) each;
}

-- ---- The sum of what the users have

abbrev total : List ℕ → List Relay → ℕ
total [] all = 0
total (u ∷ us) all = count_by (is_users u) all + total us all

or_less : (p q : Bool) (n m k : ℕ) → n ≤ m + k → cond (p || q) 1 0 + n ≤ (cond p 1 0 + m) + (cond q 1 0 + k)
or_less true true n m k le = omega (arith, le)
or_less true false n m k le = omega (arith, le)
or_less false true n m k le = omega (arith, le)
or_less false false n m k le = omega (arith, le)

count_or : (p q : Relay → Bool) (all : List Relay) → count_by (λ a. p a || q a) all ≤ count_by p all + count_by q all
count_or p q [] = zero-le
count_or p q (a ∷ all) =
    let both = count_cons (λ b. p b || q b) a all in
    let one = count_cons p a all in
    let other = count_cons q a all in
    let less = or_less (p a) (q a) (count_by (λ b. p b || q b) all) (count_by p all) (count_by q all) (count_or p q all) in
    omega (arith, both, one, other, less)

count_never : (all : List Relay) → count_by (λ a. false) all ≤ 0
count_never [] = zero-le
count_never (a ∷ all) = let more = count_never all in let here = count_cons (λ b. false) a all in omega (arith, more, here)

counted : (users : List ℕ) (all : List Relay) → count_by (λ a. list_any (λ u. a.user == u) users) all ≤ total users all
counted [] all = count_never all
counted (u ∷ us) all =
    let both = count_or (is_users u) (λ a. list_any (λ v. a.user == v) us) all in
    let more = counted us all in
    omega (arith, both, more)

all_counted : (test : Relay → Bool) (all : List Relay) → AllByRecursion (λ a. test a ≡ true) all → length all ≤ count_by test all
all_counted test [] each = zero-le
all_counted test (a ∷ all) each =
    let more = all_counted test all each.1 in
    let here = count_cons test a all ∙ ap (λ b. cond b 1 0 + count_by test all) each.0 in
    omega (arith, more, here)

total_less : (users : List ℕ) (all : List Relay) (most : ℕ) → ((u : ℕ) → count_by (is_users u) all ≤ most) → total users all ≤ length users * most
total_less [] all most each = zero-le
total_less (u ∷ us) all most each = let here = each u in let more = total_less us all most each in omega (arith, here, more)

total_below : (users : List ℕ) (all : List Relay) (most user more : ℕ) → ((u : ℕ) → count_by (is_users u) all ≤ most) → IsOneOf users user → count_by (is_users user) all + more ≤ most → total users all + more ≤ length users * most
total_below [] all most user more each among below = absurd (false≢true among)
total_below (u ∷ us) all most user more each among below =
    elim (or_cases (user == u) (list_any (λ v. user == v) us) among) [
      | inl same ↦
          let here : count_by (is_users u) all + more ≤ most = subst (λ v. count_by (is_users v) all + more ≤ most) (eqb-true user u same) below in
          let rest = total_less us all most each in
          omega (arith, here, rest)
      | inr other ↦ let here = each u in let rest = total_below us all most user more each other below in omega (arith, here, rest)
    ]

pub has_places : (setup : Setup) (users : List ℕ) (events : List Timed) (now user more : ℕ) → AreBy users events → IsOneOf users user → length users * setup.most_of_user ≤ setup.most_relays
    → count_by (is_users user) (at now (run setup events)).relays + more ≤ setup.most_of_user → length (at now (run setup events)).relays + more ≤ setup.most_relays
has_places setup users events now user more by among fits below =
    let state = run setup events in
    let of = of_kept setup users in
    let all = (at now state).relays in
    let each = of.time now state (run_keeps_by setup (IsOneOf users) (AreOf users) of tt events by) in
    let long = all_counted (λ a. list_any (λ u. a.user == u) users) all each in
    let sum = counted users all in
    let less = total_below users all setup.most_of_user user more (λ u. let few = run_quota setup events u in let fewer = count_filter (is_users u) (is_live (max state.clock now)) state.relays in omega (arith, few, fewer)) among below in
    omega (arith, long, sum, less, fits)

-- ---- So a 508 comes of the caller alone

none_some : (ready : Option Offer) → is_some ready ≡ false → ready ≡ None
none_some None e = refl
none_some (Some offer) e = absurd (false≢true (sym e))

not_ready : (has : Bool) (ready : Option Offer) → (has && is_some ready) ≡ false → has ≡ true → ready ≡ None
not_ready true ready lacks is = none_some ready lacks
not_ready false ready lacks is = absurd (false≢true is)

pub unready : (setup : Setup) (wants : List Want) → list_any (is_ready setup) wants ≡ false → IsUnready setup wants
unready setup wants none = each_map (λ w. is_ready setup w ≡ false) (λ w. setup.has_family w.family ≡ true → w.ready ≡ None) (λ w lacks is. not_ready (setup.has_family w.family) w.ready lacks is) wants (any_none (is_ready setup) wants none)

pub record AreLacking (used family quota room ready : Bool) : Type 0 where
  pub free : used ≡ false
  pub family_is : family ≡ true
  pub quota_is : quota ≡ true
  pub lacks : (room ≡ false) ⊎ (ready ≡ false)

by_rows : (used family quota room ready : Bool) → row used 437 (row (not family) 440 (row (not quota) 486 (row (not room) 508 (row (not ready) 508 None)))) ≡ Some 508 → AreLacking used family quota room ready
by_rows true family quota room ready e = absurd (unlike 437 508 refl e)
by_rows false false quota room ready e = absurd (unlike 440 508 refl e)
by_rows false true false room ready e = absurd (unlike 486 508 refl e)
by_rows false true true false ready e = record { free = refl; family_is = refl; quota_is = refl; lacks = inl refl }
by_rows false true true true false e = record { free = refl; family_is = refl; quota_is = refl; lacks = inr refl }
by_rows false true true true true e = absurd cc

abbrev pub IsLacking : Setup → FiveTuple → (user : ℕ) → List Want → State → Type 0
IsLacking setup tuple user wants state = AreLacking (has_any tuple state) (list_any (is_offered setup) wants) (has_quota setup user state) (has_room setup state) (list_any (is_ready setup) wants)

pub lacking : (setup : Setup) (tuple : FiveTuple) (user : ℕ) (wants : List Want) (state : State) → allocate_rows setup state tuple user wants ≡ Some 508 → IsLacking setup tuple user wants state
lacking setup tuple user wants state e = by_rows (has_any tuple state) (list_any (is_offered setup) wants) (has_quota setup user state) (has_room setup state) (list_any (is_ready setup) wants) e

pub only_unready : (setup : Setup) (users : List ℕ) (events : List Timed) (rules : Rules) (now : ℕ) (tuple : FiveTuple) (user id : ℕ) (lifetime : Option ℕ) (wants : List Want)
    → AreBy users events → IsOneOf users user → length users * setup.most_of_user ≤ setup.most_relays
    → (step setup rules (run setup events) now (asks tuple user (allocate id lifetime wants))).output ≡ answers tuple (refused 508) → IsUnready setup wants
only_unready setup users events rules now tuple user id lifetime wants by among fits reply =
    let state = at now (run setup events) in
    let has = refused_for setup rules tuple user (allocate id lifetime wants) state 508 reply in
    let l = lacking setup tuple user wants state has.fault_is in
    let below = ltb-true (count_by (is_users user) state.relays) setup.most_of_user l.quota_is in
    let room = has_places setup users events now user 1 by among fits (omega (arith, below)) in
    elim l.lacks [
      | inl full ↦ absurd (false≢true (sym full ∙ lt-ltb (length state.relays) setup.most_relays (omega (arith, room))))
      | inr none ↦ unready setup wants none
    ]
