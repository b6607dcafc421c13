-- A controlling agent nominates, once its patience is over.
use Rattle.ice_machine.specs.Bounds.{AreDistinct}
use Rattle.ice_machine.proofs.SilenceLemmas.{IsFirst, all_first}
use Rattle.ice_machine.proofs.RightLemmas.{IsGood, best_good}
use Rattle.std.proofs.Common.{◌≡◌, ℕ, ◌+◌, ◌*◌, ◌^◌, ◌<◌, ◌≤◌, inl, inr, ◌⊎◌, Bool, true, false, not, ◌||◌, ◌&&◌, List, [], ◌∷◌, Option, None, Some, refl, sym, ap, subst, ◌∙◌, find, filter, map, arith, eqb-true, eq-eqb, length}
use Rattle.std.specs.List.{list_any, AllByRecursion}
use Rattle.std.specs.Option.{option_map_or}
use Rattle.std.specs.Prelude.{◌==◌, nat_le, nat_lt, if◌then◌else◌}
use Rattle.std.proofs.lemmas.Bool.{cond_both, cond-true, cond-false, and_from, and_parts, and_right, cases_Bool, leb-false, ltb-true, or_right, or_cases, or_parts, and_left, or_left, cases_lt}
use Rattle.stun_endpoints.specs.declared.endpoints.Endpoint.{Endpoint}
use Rattle.stun_endpoints.specs.Endpoints.{is_endpoint}
use Rattle.ice_machine.specs.Roles.{Role, RoleDecision, keep, other_role, is_controlling, role_decision, Controlling}
use Rattle.ice_machine.specs.Agents.{seconds, Waiting, Failed, Base, Pair, Request, Setup, State, is_at, is_succeeded, is_in_progress, is_frozen, is_lost, Remote}
use Rattle.ice_machine.specs.Events.{Check, Answer, Accepted, Refused, Event, gathers, learns, meets, ends, checks, responds, strays, arrives, sends, polls, asks, nothing}
use Rattle.ice_machine.specs.Pairs.{pair_of, fits, with_pair, with_pairs}
use Rattle.ice_machine.specs.Checks.{is_kin, is_choice, is_nominating, score, most_urgent, consent_wait, rto_of, asked, request_on, is_settled_in, is_hoped_for, is_long_valid, is_ripe}
use Rattle.ice_machine.specs.Steps.{step, Step, does_nothing, is_unanswered, is_over, settled, at, changed_first, has_room, is_remote, discovered, is_base, heard, triggers, decides, checked, is_request, is_symmetric, without_request, fails, succeeds, thaws, answered, responded, changed, asks_on, is_open, polled, happens, nominated_by}
use Rattle.ice_machine.specs.Runs.{Timed}
use Rattle.ice_machine.specs.Meetings.{End, disturbed, IsFit, OneAmong}
use Rattle.ice_machine.specs.Lasting.{Watch, is_way, is_minor, is_free, asked_by, is_way_answer, seen, watched, IsTimely, IsUsual, IsCourse, IsLasting, IsNaming, HasNamed, IsUnmarked, IsUnnamedWay, IsUnnamedOther, HasUnnamed}
use Rattle.ice_machine.proofs.AddressesLemmas.{endpoint_same}
use Rattle.ice_machine.proofs.PlacesLemmas.{neither, at_left, asked_left, at_distinct, step_goes}
use Rattle.ice_machine.proofs.MeetLists.{one_map, one_weaken, one_changed, one_elsewhere, one_touched, one_exact, IsTop, top_best, one_none, one_is_there}
use Rattle.ice_machine.proofs.MeetPairs.{long_valid, live_settled, succeeded_valid, valid_thawed, valid_done, valid_unlost, asked_is, choice_high, triggers_valid}
use Rattle.ice_machine.proofs.MeetSteps.{moved, at_is, same_place, elsewhere_from, is_false}
use Rattle.ice_machine.proofs.LastingLemmas.{high_score, Free, early_by, free_by, lasts_same, way_by}
use Rattle.ice_machine.proofs.FollowedLemmas.{valid_alive, later_valid, asked_valid, unasked_same, nothing_same, due_high}
use Rattle.ice_machine.proofs.MeetTurns.{opposite_keeps}

-- ---- Pairs

other_settled : (e : End) (setup : Setup) (now : ℕ) (p : Pair) → IsUnnamedOther e p → IsUnnamedOther e (settled setup now p)
other_settled e setup now p u = cond_both (is_unanswered setup now p) _ _ (IsUnnamedOther e) (λ _. (u.0, u.1))
    (λ _. cond_both (is_over now p) _ _ (IsUnnamedOther e) (λ _. (u.0, λ same. (refl, (u.1 same).1))) (λ _. u))

or_both : (a b : Bool) → a ≡ false → b ≡ false → (a || b) ≡ false
or_both true b one other = one
or_both false b one other = other

other_asked : (e : End) (setup : Setup) (s : State) (fresh : ℕ) (p : Pair) → (p.component ≡ e.component → is_nominating setup s p ≡ false) → IsUnnamedOther e p → IsUnnamedOther e (asked setup s fresh p)
other_asked e setup s fresh p plain u = cond_both (is_lost p.state) _ _ (IsUnnamedOther e) (λ _. u)
    (λ _. cond_both (is_succeeded p.state) _ _ (IsUnnamedOther e) (λ _. (u.0, λ same. (or_both p.chosen (is_nominating setup s p) (u.1 same).0 (plain same), (u.1 same).1))) (λ _. (u.0, u.1)))

other_triggers : (e : End) (p : Pair) → IsUnnamedOther e p → IsUnnamedOther e (triggers p)
other_triggers e p u = cond_both (is_succeeded p.state || is_lost p.state) _ _ (IsUnnamedOther e) (λ _. u) (λ _. (u.0, u.1))

-- a controlling agent heeds no USE-CANDIDATE
plain_heard : (role : Role) (c : Check) (p : Pair) → role ≡ Controlling → nominated_by role c p ≡ record p { heard = true }
plain_heard role c p is = cond-false (c.nominates && (not (is_controlling role) && not (is_lost p.state))) (record p { heard = true; nominated = true }) (record p { heard = true })
    (and_right c.nominates (not (is_controlling role) && not (is_lost p.state)) (and_left (not (is_controlling role)) (not (is_lost p.state)) (ap (λ (r : Role). not (is_controlling r)) is)))

other_heard : (e : End) (role : Role) (c : Check) (p : Pair) → role ≡ Controlling → IsUnnamedOther e p → IsUnnamedOther e (heard role c p)
other_heard e role c p is u = subst (λ (q : Pair). IsUnnamedOther e (triggers q)) (sym (plain_heard role c p is)) (other_triggers e (record p { heard = true }) (u.0, u.1))

other_succeeds : (e : End) (role : Role) (now : ℕ) (r : Request) (p : Pair) → IsUnnamedOther e p → IsUnnamedOther e (succeeds role now r p)
other_succeeds e role now r p u = cond_both (is_lost p.state) _ _ (IsUnnamedOther e) (λ _. u)
    (λ _. (u.0, λ same. ((u.1 same).0, or_both p.nominated (p.chosen && (r.nominates && is_controlling role)) (u.1 same).1 (and_left p.chosen (r.nominates && is_controlling role) (u.1 same).0))))

other_thaws : (e : End) (o : Option Pair) (p : Pair) → IsUnnamedOther e p → IsUnnamedOther e (thaws o p)
other_thaws e None p u = u
other_thaws e (Some q) p u = cond_both (is_kin q p && is_frozen p.state) (record p { state = Waiting }) p (IsUnnamedOther e) (λ _. (u.0, u.1)) (λ _. u)

other_fails : (e : End) (p : Pair) → IsUnnamedOther e p → IsUnnamedOther e (fails p)
other_fails e p u = cond_both (is_in_progress p.state) (record p { state = Failed }) p (IsUnnamedOther e) (λ _. (u.0, u.1)) (λ _. u)

-- ---- Time

has_moved : (setup : Setup) (e : End) (gap delay since limit now : ℕ) (w : Watch) (s : State) → gap + delay ≤ seconds 20 → s.clock ≤ now → IsTimely gap delay now w → HasUnnamed e gap since limit w s → HasUnnamed e gap since limit w (moved setup now s)
has_moved setup e gap delay since limit now w s short le timely a = (
  a.0,
  one_map (IsUnnamedWay e gap since limit s.clock w) (IsUnnamedWay e gap since limit now w) (IsUnnamedOther e) (IsUnnamedOther e) (settled setup now)
      (λ p v. subst (IsUnnamedWay e gap since limit now w) (sym (live_settled setup now p v.valid.valid (valid_alive gap delay s.clock now w p short timely v.valid)))
      (record { there = v.there; component = v.component; past = (let l = v.past in omega (arith, l, le)); patient = v.patient; valid = later_valid gap s.clock now w p le v.valid; since_by = v.since_by; unmarked = v.unmarked }))
      (λ p u. other_settled e setup now p u) s.pairs a.1,
)

-- ---- A poll

none_settled : (e : End) (gap since limit clock : ℕ) (w : Watch) (y : Pair) (ps : List Pair) → IsUnnamedWay e gap since limit clock w y → OneAmong (λ z. z ≡ y) (IsUnnamedOther e) ps → list_any (is_settled_in y) ps ≡ false
none_settled e gap since limit clock w y ps v one = one_none (λ z. z ≡ y) (IsUnnamedOther e) (is_settled_in y)
    (λ z same. subst (λ (q : Pair). is_settled_in y q ≡ false) (sym same) (and_right (y.component == y.component) (y.chosen || y.nominated) (or_both y.chosen y.nominated v.unmarked.0 v.unmarked.1)))
    (λ z u. elim (cases_Bool (y.component == z.component)) as (λ b. is_settled_in y z ≡ false) [
      | inl same ↦ let marks = u.1 (sym (eqb-true y.component z.component same) ∙ v.component) in and_right (y.component == z.component) (z.chosen || z.nominated) (or_both z.chosen z.nominated marks.0 marks.1)
      | inr other ↦ and_left (y.component == z.component) (z.chosen || z.nominated) other
    ]) ps one

-- once its patience is over, it is the choice
is_ripe_choice : (setup : Setup) (e : End) (gap since limit : ℕ) (w : Watch) (s : State) (y : Pair) → s.role ≡ Controlling → IsUnnamedWay e gap since limit s.clock w y → OneAmong (λ z. z ≡ y) (IsUnnamedOther e) s.pairs → since + setup.patience ≤ s.clock → is_choice setup s y ≡ true
is_ripe_choice setup e gap since limit w s y role v one ripe =
    and_from (is_controlling s.role) (is_succeeded y.state && (not (list_any (is_settled_in y) s.pairs) && is_ripe setup s y)) (ap is_controlling role)
    (and_from (is_succeeded y.state) (not (list_any (is_settled_in y) s.pairs) && is_ripe setup s y) v.valid.valid
    (and_from (not (list_any (is_settled_in y) s.pairs)) (is_ripe setup s y) (ap not (none_settled e gap since limit s.clock w y s.pairs v one))
    (or_right (not (list_any (is_hoped_for s y) s.pairs)) (list_any (is_long_valid setup s y) s.pairs)
    (one_is_there (λ z. z ≡ y) (IsUnnamedOther e) (is_long_valid setup s y) (λ z same. subst (λ (q : Pair). is_long_valid setup s y q ≡ true) (sym same)
    (long_valid setup s y v.valid.valid (let l = v.since_by in omega (arith, l, ripe)))) s.pairs one))))

is_named : (setup : Setup) (s : State) (y : Pair) → is_succeeded y.state ≡ true → is_choice setup s y ≡ true → is_nominating setup s y ≡ true
is_named setup s y valid is =
    and_from (is_controlling s.role) (is_succeeded y.state && (y.chosen || is_choice setup s y)) (and_parts (is_controlling s.role) _ is).0
    (and_from (is_succeeded y.state) (y.chosen || is_choice setup s y) valid (or_right y.chosen (is_choice setup s y) is))

-- a poll names, or leaves all unnamed
abbrev Names : Setup → End → (gap since limit fresh : ℕ) → State → Watch → Step → Type 0
Names setup e gap since limit fresh s w t = IsNaming setup e fresh s t.output ⊎ HasUnnamed e gap since limit w t.state

-- if the way isn't asked on, no poll is free once its patience is over
passed_by : (e : End) (gap since limit : ℕ) (w : Watch) (setup : Setup) (s : State) (free : Bool) (u : Option ℕ) (p : Pair) → u ≡ w.asked_at → since + setup.patience ≤ limit → s.role ≡ Controlling → OneAmong (λ z. z ≡ p) (IsUnnamedOther e) s.pairs → (free ≡ true → 2 ^ 64 * 3 ≤ score setup s p → ⊥) → IsUnnamedWay e gap since limit s.clock w p
    → IsUnnamedWay e gap since limit s.clock (record { free_at = if free then s.clock else w.free_at; asked_at = u }) p
passed_by e gap since limit w setup s free u p same enough role one never v = record {
  there = v.there;
  component = v.component;
  past = free_by free s.clock w.free_at v.past;
  patient = early_limit free s.clock w.free_at limit v.patient (λ is. elim (cases_lt s.clock (since + setup.patience)) as (λ x. s.clock ≤ limit) [
    | inl early ↦ omega (arith, early, enough)
    | inr ripe ↦ absurd (never is (high_score setup s p (choice_high setup s p (valid_unlost p.state v.valid.valid) (or_left (is_choice setup s p) _ (is_ripe_choice setup e gap since limit w s p role v one ripe)))))
  ]);
  valid = record {
    valid = v.valid.valid;
    ahead = early_by free s.clock w.free_at p.due v.valid.ahead (λ is. elim (cases_Bool (nat_le p.due s.clock)) as (λ x. s.clock < p.due) [
      | inl is_due ↦ absurd (never is (due_high setup s p v.valid.valid is_due))
      | inr isnt ↦ leb-false p.due s.clock isnt
    ]);
    near = v.valid.near;
    lasting = subst (λ (o : Option ℕ). IsLasting gap o p) (sym same) v.valid.lasting;
  };
  since_by = v.since_by;
  unmarked = v.unmarked;
}
  where
    early_limit : (b : Bool) (clock free limit : ℕ) → free ≤ limit → (b ≡ true → clock ≤ limit) → (if b then clock else free) ≤ limit
    early_limit true clock free limit le on = on refl
    early_limit false clock free limit le on = le

asked_unnamed : (e : End) (gap since limit : ℕ) (w : Watch) (setup : Setup) (s : State) (fresh free : ℕ) (r : Request) (p : Pair) → IsFit setup → free ≤ s.clock → free ≤ limit → is_way e r ≡ true → s.clock ≤ w.free_at + gap → is_nominating setup s p ≡ false → IsUnnamedWay e gap since limit s.clock w p
    → IsUnnamedWay e gap since limit s.clock (record { free_at = free; asked_at = asked_by e s.clock w.asked_at (asks r) }) (asked setup s fresh p)
asked_unnamed e gap since limit w setup s fresh free r p fit early soon way recent plain v =
    let again : Pair = record p { triggered = false; chosen = p.chosen || is_nominating setup s p; due = s.clock + (if is_nominating setup s p && not p.nominated then rto_of setup else consent_wait fresh) } in
    let same : asked setup s fresh p ≡ again = asked_is setup s fresh p v.valid.valid in
    record {
      there = at_left e.base e.to p (asked setup s fresh p) (asked_left setup s fresh p) ∙ v.there;
      component = ap (λ (q : Pair). q.component) same ∙ v.component;
      past = early;
      patient = soon;
      valid = asked_valid e gap w setup s fresh free r p fit early way recent v.valid;
      since_by = subst (λ (q : Pair). q.succeeded_at ≤ since) (sym same) v.since_by;
      unmarked = subst IsUnmarked (sym same) (or_both p.chosen (is_nominating setup s p) v.unmarked.0 plain, v.unmarked.1);
    }

limit_by : (b : Bool) (clock free limit : ℕ) → free ≤ limit → (b ≡ true → clock ≤ limit) → (if b then clock else free) ≤ limit
limit_by true clock free limit le on = on refl
limit_by false clock free limit le on = le

-- the pair that is found is changed
each_found : (Q : Pair → Type 0) (test : Pair → Bool) (f : Pair → Pair) (x : Pair) (ps : List Pair) → find test ps ≡ Some x → Q (f x) → AllByRecursion Q ps → AllByRecursion Q (changed_first test f ps)
each_found Q test f x [] is anew each = absurd cc
each_found Q test f x (p ∷ ps) is anew each = cond_both (test p) (f p ∷ ps) (p ∷ changed_first test f ps) (AllByRecursion Q)
    (λ yes_it. (subst (λ (q : Pair). Q (f q)) (some_is x p (sym is ∙ cond-true (test p) (Some p) (find test ps) yes_it)) anew, each.1))
    (λ no_it. (each.0, each_found Q test f x ps (sym (cond-false (test p) (Some p) (find test ps) no_it) ∙ is) anew each.1))
  where
    some_is : (a b : Pair) → Some a ≡ Some b → a ≡ b
    some_is a b same = cc

one_found_changed : (P Q : Pair → Type 0) (test : Pair → Bool) (f : Pair → Pair) (x : Pair) → ((z : Pair) → P z → test z ≡ false) → (ps : List Pair) → find test ps ≡ Some x → Q (f x) → OneAmong P Q ps → OneAmong P Q (changed_first test f ps)
one_found_changed P Q test f x isnt [] is anew one = absurd one
one_found_changed P Q test f x isnt (p ∷ ps) is anew (inl here) =
    subst (OneAmong P Q) (sym (cond-false (test p) (f p ∷ ps) (p ∷ changed_first test f ps) (isnt p here.0)))
    (inl (here.0, each_found Q test f x ps (sym (cond-false (test p) (Some p) (find test ps) (isnt p here.0)) ∙ is) anew here.1))
one_found_changed P Q test f x isnt (p ∷ ps) is anew (inr there) = cond_both (test p) (f p ∷ ps) (p ∷ changed_first test f ps) (OneAmong P Q)
    (λ yes_it. inr (subst (λ (q : Pair). Q (f q)) (some_is x p (sym is ∙ cond-true (test p) (Some p) (find test ps) yes_it)) anew, there.1))
    (λ no_it. inr (there.0, one_found_changed P Q test f x isnt ps (sym (cond-false (test p) (Some p) (find test ps) no_it) ∙ is) anew there.1))
  where
    some_is : (a b : Pair) → Some a ≡ Some b → a ≡ b
    some_is a b same = cc

each_both : (P Q R : Pair → Type 0) (ps : List Pair) → OneAmong P Q ps → AllByRecursion R ps → AllByRecursion (λ z. (P z ⊎ Q z) × R z) ps
each_both P Q R [] one each = absurd one
each_both P Q R (p ∷ ps) (inl here) each = ((inl here.0, each.0), each_rest ps here.1 each.1)
  where
    each_rest : (ps : List Pair) → AllByRecursion Q ps → AllByRecursion R ps → AllByRecursion (λ z. (P z ⊎ Q z) × R z) ps
    each_rest [] one each = tt
    each_rest (p ∷ ps) one each = ((inr one.0, each.0), each_rest ps one.1 each.1)
each_both P Q R (p ∷ ps) (inr there) each = ((inr there.0, each.0), each_both P Q R ps there.1 each.1)

polls_on : (e : End) (gap since limit : ℕ) (w : Watch) (setup : Setup) (fresh : ℕ) (s : State) (y : Pair) (o : Option Pair) → IsFit setup → since + setup.patience ≤ limit → s.clock ≤ w.free_at + gap → s.role ≡ Controlling → IsUnnamedWay e gap since limit s.clock w y → OneAmong (λ z. z ≡ y) (IsUnnamedOther e) s.pairs
    → IsTop (score setup s y) (score setup s) o → IsGood (λ z. ((z ≡ y) ⊎ IsUnnamedOther e z) × IsFirst s.pairs z) (score setup s) o
    → let t = option_map_or (asks_on setup fresh s) o (does_nothing s) in
    Names setup e gap since limit fresh s (record { free_at = if Free setup e s o then s.clock else w.free_at; asked_at = asked_by e s.clock w.asked_at t.output }) t
polls_on e gap since limit w setup fresh s y None fit enough recent role v one top good =
    let W : Watch = record { free_at = if Free setup e s None then s.clock else w.free_at; asked_at = asked_by e s.clock w.asked_at nothing } in
    inr (
      role,
      one_weaken (λ z. z ≡ y) (IsUnnamedWay e gap since limit s.clock W) (IsUnnamedOther e)
          (λ z same. subst (IsUnnamedWay e gap since limit s.clock W) (sym same)
          (passed_by e gap since limit w setup s (Free setup e s None) (asked_by e s.clock w.asked_at nothing) y (nothing_same e s.clock w.asked_at) enough role one (λ _ high. let t = top in omega (arith, high, t)) v)) s.pairs one,
    )
polls_on e gap since limit w setup fresh s y (Some x) fit enough recent role v one top good =
    let r : Request = request_on setup s fresh x in
    let free : Bool = Free setup e s (Some x) in
    let W : Watch = record { free_at = if free then s.clock else w.free_at; asked_at = asked_by e s.clock w.asked_at (asks r) } in
    let goal : Type 0 = Names setup e gap since limit fresh s W (asks_on setup fresh s x) in
    elim good.0.0 as (λ b. goal) [
      | inl same ↦
          let here : is_at e.base e.to x ≡ true = ap (is_at e.base e.to) same ∙ v.there in
          elim (cases_Bool (is_nominating setup s x)) as (λ b. goal) [
            | inl names ↦ inl (record { pair = x; known = good.0.1; component = ap (λ (q : Pair). q.component) same ∙ v.component; asked = refl; nominates = names })
            | inr plain ↦
                let plain_y : is_nominating setup s y ≡ false = ap (is_nominating setup s) (sym same) ∙ plain in
                let early : free ≡ true → s.clock ≤ limit = λ _. elim (cases_lt s.clock (since + setup.patience)) as (λ b. s.clock ≤ limit) [
                  | inl lt ↦ omega (arith, lt, enough)
                  | inr ripe ↦ neither _ (is_nominating setup s y) (is_named setup s y v.valid.valid (is_ripe_choice setup e gap since limit w s y role v one ripe)) plain_y
                ] in
                inr (
                  role,
                  one_changed (λ z. z ≡ y) (IsUnnamedWay e gap since limit s.clock W) (IsUnnamedOther e) (is_at x.base x.remote) (asked setup s fresh)
                      (λ z same. same_place e x z here ∙ ap (is_at e.base e.to) same ∙ v.there) (λ z u. same_place e x z here ∙ u.0)
                      (λ z same. subst (λ (q : Pair). IsUnnamedWay e gap since limit s.clock W (asked setup s fresh q)) (sym same)
                      (asked_unnamed e gap since limit w setup s fresh (if free then s.clock else w.free_at) r y fit (free_by free s.clock w.free_at v.past) (limit_by free s.clock w.free_at limit v.patient early) here recent plain_y v)) s.pairs one,
                )
          ]
      | inr other ↦ elim (cases_Bool (is_nominating setup s x && (x.component == e.component))) as (λ b. goal) [
        | inl names ↦ let both = and_parts (is_nominating setup s x) (x.component == e.component) names in inl (record { pair = x; known = good.0.1; component = eqb-true x.component e.component both.1; asked = refl; nominates = both.0 })
        | inr plain ↦
            let never : free ≡ true → 2 ^ 64 * 3 ≤ score setup s y → ⊥ = λ is high. elim (or_cases (is_at e.base e.to x) (nat_lt (score setup s x) (2 ^ 64 * 3)) (and_parts (is_open s) (is_minor setup e s x) is).1) as (λ n. ⊥) [
              | inl there ↦ neither ⊥ (is_at e.base e.to x) there other.0
              | inr minor ↦ absurd (let low = ltb-true (score setup s x) (2 ^ 64 * 3) minor in omega (arith, high, low, top))
            ] in
            let plain_x : x.component ≡ e.component → is_nominating setup s x ≡ false = λ same. first_false (is_nominating setup s x) (x.component == e.component) (eq-eqb x.component e.component same) plain in
            let b : OneAmong (λ z. z ≡ y) (IsUnnamedOther e) (changed_first (is_at x.base x.remote) (asked setup s fresh) s.pairs) = one_found_changed (λ z. z ≡ y) (IsUnnamedOther e) (is_at x.base x.remote) (asked setup s fresh) x
            (λ z same. is_false (is_at x.base x.remote z) (elsewhere_from e x z other.0 (ap (is_at e.base e.to) same ∙ v.there))) s.pairs good.0.1 (other_asked e setup s fresh x plain_x other) one in
            inr (
              role,
              one_weaken (λ z. z ≡ y) (IsUnnamedWay e gap since limit s.clock W) (IsUnnamedOther e)
                  (λ z same. subst (IsUnnamedWay e gap since limit s.clock W) (sym same) (passed_by e gap since limit w setup s free (asked_by e s.clock w.asked_at (asks r)) y (unasked_same e s.clock r w.asked_at other.0) enough role one never v)) (changed_first (is_at x.base x.remote) (asked setup s fresh) s.pairs) b,
            )
      ]
    ]
  where
    first_false : (a b : Bool) → b ≡ true → (a && b) ≡ false → a ≡ false
    first_false true b is isnt = absurd cc
    first_false false b is isnt = refl

abbrev after_poll : Setup → End → Watch → State → Step → Watch
after_poll setup e w s t = record { free_at = if is_free setup e s then s.clock else w.free_at; asked_at = asked_by e s.clock w.asked_at t.output }

kept_poll : (setup : Setup) (e : End) (gap since limit fresh : ℕ) (w : Watch) (s : State) → IsFit setup → since + setup.patience ≤ limit → s.clock ≤ w.free_at + gap → AreDistinct s.pairs → HasUnnamed e gap since limit w s
    → Names setup e gap since limit fresh s (seen setup e fresh s polls w) (polled setup fresh s)
kept_poll setup e gap since limit fresh w s fit enough recent distinct a =
    let x = one_exact (IsUnnamedWay e gap since limit s.clock w) (IsUnnamedOther e) s.pairs a.1 in
    let R : Step → Type 0 = λ t. Names setup e gap since limit fresh s (after_poll setup e w s t) t in
    let O : Step = option_map_or (asks_on setup fresh s) (most_urgent setup s) (does_nothing s) in
    elim (cases_Bool (is_open s)) as (λ b. R (polled setup fresh s)) [
      | inl shut_not ↦ subst R (sym (cond-true (is_open s) O (does_nothing s) shut_not)) (polls_on e gap since limit w setup fresh s x.0 (most_urgent setup s) fit enough recent a.0 x.1 x.2 (top_best (IsUnnamedOther e) (score setup s) x.0 s.pairs x.2)
          (best_good (λ z. ((z ≡ x.0) ⊎ IsUnnamedOther e z) × IsFirst s.pairs z) (score setup s) s.pairs (each_both (λ z. z ≡ x.0) (IsUnnamedOther e) (IsFirst s.pairs) s.pairs x.2 (all_first s.pairs distinct))))
      | inr shut ↦ subst R (sym (cond-false (is_open s) O (does_nothing s) shut))
          (inr (
            a.0,
            one_weaken (λ z. z ≡ x.0) (IsUnnamedWay e gap since limit s.clock (after_poll setup e w s (does_nothing s))) (IsUnnamedOther e)
                (λ z same. subst (IsUnnamedWay e gap since limit s.clock (after_poll setup e w s (does_nothing s))) (sym same) (passed_by e gap since limit w setup s (is_free setup e s) (asked_by e s.clock w.asked_at nothing) x.0 (nothing_same e s.clock w.asked_at) enough a.0 x.2
                (λ free _. neither ⊥ (is_open s) (and_parts (is_open s) (option_map_or (is_minor setup e s) (most_urgent setup s) true) free).0 shut) x.1)) s.pairs x.2,
          ))
    ]

-- ---- Candidates, and a check

with_unnamed : (P : Pair → Type 0) (e : End) (most : ℕ) (p : Pair) (ps : List Pair) → IsUnmarked p → ((z : Pair) → P z → is_at e.base e.to z ≡ true) → OneAmong P (IsUnnamedOther e) ps → OneAmong P (IsUnnamedOther e) (with_pair most p ps)
with_unnamed P e most p ps plain there a = cond_both (list_any (is_at p.base p.remote) ps || not (nat_lt (length ps) most)) ps (p ∷ ps) (OneAmong P (IsUnnamedOther e)) (λ _. a)
    (λ isnt. inr (
      (
        is_false (is_at e.base e.to p) (λ here. neither ⊥ (list_any (is_at p.base p.remote) ps)
            (one_is_there P (IsUnnamedOther e) (is_at p.base p.remote) (λ z v. same_place e p z here ∙ there z v) ps a) (or_parts (list_any (is_at p.base p.remote) ps) (not (nat_lt (length ps) most)) isnt).0),
        λ _. plain,
      ),
      a,
    ))

with_all_unnamed : (P : Pair → Type 0) (e : End) (most : ℕ) (news ps : List Pair) → AllByRecursion IsUnmarked news → ((z : Pair) → P z → is_at e.base e.to z ≡ true) → OneAmong P (IsUnnamedOther e) ps → OneAmong P (IsUnnamedOther e) (with_pairs most news ps)
with_all_unnamed P e most [] ps plain there a = a
with_all_unnamed P e most (p ∷ news) ps plain there a = with_unnamed P e most p (with_pairs most news ps) plain.0 there (with_all_unnamed P e most news ps plain.1 there a)

new_bases : (r : Remote) (bs : List Base) → AllByRecursion IsUnmarked (map {B = Pair} (λ b. pair_of b r) bs)
new_bases r [] = tt
new_bases r (b ∷ bs) = ((refl, refl), new_bases r bs)

new_remotes : (b : Base) (rs : List Remote) → AllByRecursion IsUnmarked (map {B = Pair} (pair_of b) rs)
new_remotes b [] = tt
new_remotes b (r ∷ rs) = ((refl, refl), new_remotes b rs)

heard_unnamed : (e : End) (role : Role) (gap since limit clock : ℕ) (w : Watch) (c : Check) (p : Pair) → role ≡ Controlling → IsUnnamedWay e gap since limit clock w p → IsUnnamedWay e gap since limit clock w (heard role c p)
heard_unnamed e role gap since limit clock w c p is v =
    subst (λ (q : Pair). IsUnnamedWay e gap since limit clock w (triggers q)) (sym (plain_heard role c p is)) (subst (IsUnnamedWay e gap since limit clock w) (sym (triggers_valid (record p { heard = true }) v.valid.valid)) (record {
      there = v.there;
      component = v.component;
      past = v.past;
      patient = v.patient;
      valid = record { valid = v.valid.valid; ahead = v.valid.ahead; near = v.valid.near; lasting = lasts_same gap w.asked_at p (record p { heard = true }) refl refl v.valid.lasting };
      since_by = v.since_by;
      unmarked = v.unmarked;
    }))

check_by : (setup : Setup) (e : End) (gap since limit : ℕ) (w : Watch) (c : Check) (s : State) (o : Option Base) → c.role ≡ other_role s.role → HasUnnamed e gap since limit w s → HasUnnamed e gap since limit w (option_map_or (checked setup c s) o (does_nothing s)).state
check_by setup e gap since limit w c s None role a = a
check_by setup e gap since limit w c s (Some b) role a =
    let P : Pair → Type 0 = IsUnnamedWay e gap since limit s.clock w in
    let decision : role_decision s.role s.tiebreaker c.role c.tiebreaker ≡ keep = ap (λ (r : Role). role_decision s.role s.tiebreaker r c.tiebreaker) role ∙ opposite_keeps s.role s.tiebreaker c.tiebreaker in
    subst (λ (d : RoleDecision). HasUnnamed e gap since limit w (decides setup b c s d).state) (sym decision) (
      a.0,
      one_touched P (IsUnnamedOther e) (is_at c.base c.from) (heard s.role c) (λ p v. heard_unnamed e s.role gap since limit s.clock w c p a.0 v) (λ p u. other_heard e s.role c p a.0 u)
          (with_pair setup.most_pairs (pair_of b (discovered b c)) s.pairs) (with_unnamed P e setup.most_pairs (pair_of b (discovered b c)) s.pairs (refl, refl) (λ z v. v.there) a.1),
    )

-- ---- A response

succeeds_unnamed : (e : End) (role : Role) (gap since limit clock : ℕ) (w : Watch) (r : Request) (p : Pair) → IsUnnamedWay e gap since limit clock w p → IsUnnamedWay e gap since limit clock (record w { asked_at = None }) (succeeds role clock r p)
succeeds_unnamed e role gap since limit clock w r p v =
    let made : Pair = succeeded_valid role clock r p in
    let due_is : made.due ≡ p.due = cond-true (is_succeeded p.state) p.due (clock + seconds 4) v.valid.valid in
    let near = v.valid.near in
    subst (IsUnnamedWay e gap since limit clock (record w { asked_at = None })) (sym (cond-false (is_lost p.state) p made (valid_unlost p.state v.valid.valid))) (record {
      there = v.there;
      component = v.component;
      past = v.past;
      patient = v.patient;
      valid = record { valid = refl; ahead = subst (λ (n : ℕ). w.free_at < n) (sym due_is) v.valid.ahead; near = subst (λ (n : ℕ). n ≤ clock + seconds 6) (sym due_is) near; lasting = subst (λ (n : ℕ). n + seconds 24 ≤ clock + seconds 30) (sym due_is) (omega (arith, near)) };
      since_by = subst (λ (n : ℕ). n ≤ since) (sym (cond-true (is_succeeded p.state) p.succeeded_at clock v.valid.valid)) v.since_by;
      unmarked = (v.unmarked.0, or_both p.nominated (p.chosen && (r.nominates && is_controlling role)) v.unmarked.1 (and_left p.chosen (r.nominates && is_controlling role) v.unmarked.0));
    })

thaws_unnamed : (e : End) (gap since limit clock : ℕ) (w : Watch) (o : Option Pair) (p : Pair) → IsUnnamedWay e gap since limit clock w p → IsUnnamedWay e gap since limit clock w (thaws o p)
thaws_unnamed e gap since limit clock w None p v = v
thaws_unnamed e gap since limit clock w (Some q) p v = subst (IsUnnamedWay e gap since limit clock w) (sym (cond-false (is_kin q p && is_frozen p.state) (record p { state = Waiting }) p (and_right (is_kin q p) (is_frozen p.state) (valid_thawed p.state v.valid.valid)))) v

fails_unnamed : (e : End) (gap since limit clock : ℕ) (w : Watch) (p : Pair) → IsUnnamedWay e gap since limit clock w p → IsUnnamedWay e gap since limit clock w (fails p)
fails_unnamed e gap since limit clock w p v = subst (IsUnnamedWay e gap since limit clock w) (sym (cond-false (is_in_progress p.state) _ p (valid_done p.state v.valid.valid))) v

other_answer : (e : End) (gap since limit fresh : ℕ) (w : Watch) (s : State) (r : Request) → is_way e r ≡ false → HasUnnamed e gap since limit w s → HasUnnamed e gap since limit w (answered fresh r Accepted s)
other_answer e gap since limit fresh w s r isnt a =
    let P : Pair → Type 0 = IsUnnamedWay e gap since limit s.clock w in
    let after : List Pair = changed_first (is_at r.base r.to) (succeeds s.role s.clock r) s.pairs in
    let o : Option Pair = find (is_at r.base r.to) after in (
      a.0,
      one_map P P (IsUnnamedOther e) (IsUnnamedOther e) (thaws o) (λ p v. thaws_unnamed e gap since limit s.clock w o p v) (λ p u. other_thaws e o p u) after
          (one_elsewhere P (IsUnnamedOther e) (is_at r.base r.to) (succeeds s.role s.clock r) (λ p v. is_false (is_at r.base r.to p) (λ same. neither ⊥ (is_way e r) (way_by e r p v.there same) isnt))
          (λ p u. other_succeeds e s.role s.clock r p u) s.pairs a.1),
    )

way_answer : (e : End) (gap since limit fresh : ℕ) (w : Watch) (s : State) (r : Request) → is_way e r ≡ true → HasUnnamed e gap since limit w s → HasUnnamed e gap since limit (record w { asked_at = None }) (answered fresh r Accepted s)
way_answer e gap since limit fresh w s r is a =
    let both = and_parts (e.base == r.base) (is_endpoint e.to r.to) is in
    let P : Pair → Type 0 = IsUnnamedWay e gap since limit s.clock w in
    let R : Pair → Type 0 = IsUnnamedWay e gap since limit s.clock (record w { asked_at = None }) in
    let at_r : (p : Pair) → is_at r.base r.to p ≡ is_at e.base e.to p = λ p. ap (λ (n : ℕ). is_at n r.to p) (sym (eqb-true e.base r.base both.0)) ∙ ap (λ (x : Endpoint). is_at e.base x p) (sym (endpoint_same e.to r.to both.1)) in
    let after : List Pair = changed_first (is_at r.base r.to) (succeeds s.role s.clock r) s.pairs in
    let o : Option Pair = find (is_at r.base r.to) after in (
      a.0,
      one_map R R (IsUnnamedOther e) (IsUnnamedOther e) (thaws o) (λ p v. thaws_unnamed e gap since limit s.clock (record w { asked_at = None }) o p v) (λ p u. other_thaws e o p u) after
          (one_changed P R (IsUnnamedOther e) (is_at r.base r.to) (succeeds s.role s.clock r) (λ p v. at_r p ∙ v.there) (λ p u. at_r p ∙ u.0) (λ p v. succeeds_unnamed e s.role gap since limit s.clock w r p v) s.pairs a.1),
    )

failed_unnamed : (e : End) (gap since limit : ℕ) (w : Watch) (base : ℕ) (to : Endpoint) (s : State) → HasUnnamed e gap since limit w s → HasUnnamed e gap since limit w (changed fails base to s)
failed_unnamed e gap since limit w base to s a = (a.0, one_touched (IsUnnamedWay e gap since limit s.clock w) (IsUnnamedOther e) (is_at base to) fails (λ p v. fails_unnamed e gap since limit s.clock w p v) (λ p u. other_fails e p u) s.pairs a.1)

response_by : (e : End) (gap since limit fresh base : ℕ) (from : Endpoint) (answer : Answer) (w : Watch) (s : State) (o : Option Request) → (answer ≡ Refused 487 → ⊥) → HasUnnamed e gap since limit w s
    → HasUnnamed e gap since limit (option_map_or (λ r. if is_way_answer e base from answer r then record w { asked_at = None } else w) o w) (option_map_or (responded fresh base from answer s) o (does_nothing s)).state
response_by e gap since limit fresh base from answer w s None usual a = a
response_by e gap since limit fresh base from Accepted w s (Some r) usual a =
    let t : State = without_request r.id s in
    cond_both (is_symmetric base from r) (answered fresh r Accepted t) (changed fails r.base r.to t) (λ x. HasUnnamed e gap since limit (if is_way_answer e base from Accepted r then record w { asked_at = None } else w) x)
    (λ symmetric. cond_both (is_way e r && is_symmetric base from r) (record w { asked_at = None }) w (λ u. HasUnnamed e gap since limit u (answered fresh r Accepted t))
    (λ is. way_answer e gap since limit fresh w t r (and_parts (is_way e r) (is_symmetric base from r) is).0 a)
    (λ isnt. other_answer e gap since limit fresh w t r (is_false (is_way e r) (λ way. neither ⊥ (is_way e r && is_symmetric base from r) (and_from (is_way e r) (is_symmetric base from r) way symmetric) isnt)) a))
    (λ elsewhere. subst (λ (u : Watch). HasUnnamed e gap since limit u (changed fails r.base r.to t)) (sym (cond-false (is_way e r && is_symmetric base from r) (record w { asked_at = None }) w (and_right (is_way e r) (is_symmetric base from r) elsewhere)))
    (failed_unnamed e gap since limit w r.base r.to t a))
response_by e gap since limit fresh base from (Refused code) w s (Some r) usual a =
    let t : State = without_request r.id s in
    cond_both (is_symmetric base from r) (answered fresh r (Refused code) t) (changed fails r.base r.to t) (λ x. HasUnnamed e gap since limit w x)
    (λ _. cond_both (code == 487) _ (changed fails r.base r.to t) (HasUnnamed e gap since limit w) (λ is. absurd (usual (ap Refused (eqb-true code 487 is)))) (λ _. failed_unnamed e gap since limit w r.base r.to t a))
    (λ _. failed_unnamed e gap since limit w r.base r.to t a)

-- ---- Events

kept_event : (setup : Setup) (e : End) (gap since limit fresh : ℕ) (w : Watch) (s : State) (event : Event) → IsFit setup → since + setup.patience ≤ limit → s.clock ≤ w.free_at + gap → AreDistinct s.pairs → IsUsual s event → HasUnnamed e gap since limit w s
    → Names setup e gap since limit fresh s (seen setup e fresh s event w) (happens setup fresh s event)
kept_event setup e gap since limit fresh w s (gathers b) fit enough recent distinct usual a = inr (cond_both (has_room setup s.bases && not (list_any (is_base b.number) s.bases)) _ _ (HasUnnamed e gap since limit w)
    (λ _. (a.0, with_all_unnamed (IsUnnamedWay e gap since limit s.clock w) e setup.most_pairs (map {B = Pair} (pair_of b) (filter (fits b) s.remotes)) s.pairs (new_remotes b (filter (fits b) s.remotes)) (λ z v. v.there) a.1)) (λ _. a))
kept_event setup e gap since limit fresh w s (learns r) fit enough recent distinct usual a = inr (cond_both (has_room setup s.remotes && not (list_any (is_remote r.component r.address) s.remotes)) _ _ (HasUnnamed e gap since limit w)
    (λ _. (a.0, with_all_unnamed (IsUnnamedWay e gap since limit s.clock w) e setup.most_pairs (map {B = Pair} (λ b. pair_of b r) (filter (λ b. fits b r) s.bases)) s.pairs (new_bases r (filter (λ b. fits b r) s.bases)) (λ z v. v.there) a.1)) (λ _. a))
kept_event setup e gap since limit fresh w s meets fit enough recent distinct usual a = inr a
kept_event setup e gap since limit fresh w s ends fit enough recent distinct usual a = inr a
kept_event setup e gap since limit fresh w s (checks c) fit enough recent distinct usual a = inr (check_by setup e gap since limit w c s (find (is_base c.base) s.bases) usual a)
kept_event setup e gap since limit fresh w s (responds base from id answer) fit enough recent distinct usual a = inr (response_by e gap since limit fresh base from answer w s (find (is_request id) s.requests) usual a)
kept_event setup e gap since limit fresh w s (strays base from id size code) fit enough recent distinct usual a = inr a
kept_event setup e gap since limit fresh w s (arrives base from bytes) fit enough recent distinct usual a = inr a
kept_event setup e gap since limit fresh w s (sends component bytes) fit enough recent distinct usual a = inr a
kept_event setup e gap since limit fresh w s polls fit enough recent distinct usual a = kept_poll setup e gap since limit fresh w s fit enough recent distinct a

all_distinct : (setup : Setup) (s : State) (events : List Timed) → AreDistinct s.pairs → AreDistinct (disturbed setup s events).pairs
all_distinct setup s [] distinct = distinct
all_distinct setup s (t ∷ earlier) distinct = (step_goes setup (disturbed setup s earlier) t.now t.fresh t.event).distinct (all_distinct setup s earlier distinct)

named_step : (setup : Setup) (e : End) (gap delay since limit : ℕ) (w : Watch) (s : State) (t : Timed) → IsFit setup → since + setup.patience ≤ limit → gap + delay ≤ seconds 20 → s.clock ≤ t.now → IsTimely gap delay t.now w → AreDistinct s.pairs → IsUsual (at setup t.now s) t.event → HasUnnamed e gap since limit w s
    → Names setup e gap since limit t.fresh (at setup t.now s) (seen setup e t.fresh (at setup t.now s) t.event w) (step setup s t.now t.fresh t.event)
named_step setup e gap delay since limit w s t fit enough short le timely distinct usual a =
    let same : at setup t.now s ≡ moved setup t.now s = at_is setup t.now s le in
    subst (λ (x : State). Names setup e gap since limit t.fresh x (seen setup e t.fresh x t.event w) (happens setup t.fresh x t.event)) (sym same)
    (kept_event setup e gap since limit t.fresh w (moved setup t.now s) t.event fit enough timely.0 (subst (λ (x : State). AreDistinct x.pairs) same (at_distinct setup t.now s distinct))
    (subst (λ (x : State). IsUsual x t.event) same usual) (has_moved setup e gap delay since limit t.now w s short le timely a))

named_by : (setup : Setup) (e : End) (gap delay since limit : ℕ) (s : State) (w : Watch) (events : List Timed) → IsFit setup → since + setup.patience ≤ limit → gap + delay ≤ seconds 20 → AreDistinct s.pairs → HasUnnamed e gap since limit w s → IsCourse setup e gap delay s w events
    → HasNamed setup e s events ⊎ HasUnnamed e gap since limit (watched setup e s w events) (disturbed setup s events)
named_by setup e gap delay since limit s w [] fit enough short distinct a course = inr a
named_by setup e gap delay since limit s w (t ∷ earlier) fit enough short distinct a course =
    elim (named_by setup e gap delay since limit s w earlier fit enough short distinct a course.0) as (λ x. HasNamed setup e s (t ∷ earlier) ⊎ HasUnnamed e gap since limit (watched setup e s w (t ∷ earlier)) (disturbed setup s (t ∷ earlier))) [
      | inl named ↦ inl (inr named)
      | inr yet ↦ elim (named_step setup e gap delay since limit (watched setup e s w earlier) (disturbed setup s earlier) t fit enough short course.1 course.2 (all_distinct setup s earlier distinct) course.3 yet)
          as (λ x. HasNamed setup e s (t ∷ earlier) ⊎ HasUnnamed e gap since limit (watched setup e s w (t ∷ earlier)) (disturbed setup s (t ∷ earlier))) [
            | inl names ↦ inl (inl names)
            | inr still ↦ inr still
          ]
    ]

pub is_nominated : (setup : Setup) (e : End) (gap delay since limit : ℕ) (s : State) (w : Watch) (events : List Timed) (now : ℕ) → IsFit setup → since + setup.patience ≤ limit → gap + delay ≤ seconds 20 → AreDistinct s.pairs → HasUnnamed e gap since limit w s → IsCourse setup e gap delay s w events
    → IsTimely gap delay now (watched setup e s w events) → limit + gap < now → HasNamed setup e s events
is_nominated setup e gap delay since limit s w events now fit enough short distinct a course timely late =
    elim (named_by setup e gap delay since limit s w events fit enough short distinct a course) as (λ x. HasNamed setup e s events) [
      | inl named ↦ named
      | inr yet ↦ let y = one_exact (IsUnnamedWay e gap since limit (disturbed setup s events).clock (watched setup e s w events)) (IsUnnamedOther e) (disturbed setup s events).pairs yet.1 in
          absurd (let soon = y.1.patient in let recent = timely.0 in omega (arith, soon, recent, late))
    ]
