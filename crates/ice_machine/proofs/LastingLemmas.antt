-- Consent lasts while the way is asked on, and answered.
use Rattle.std.proofs.Common.{◌≡◌, ℕ, ◌+◌, ◌*◌, ◌%◌, ◌^◌, ◌<◌, ◌≤◌, inl, inr, ◌⊎◌, Bool, true, false, not, ◌||◌, ◌&&◌, List, [], ◌∷◌, Option, None, Some, refl, sym, ap, subst, ◌∙◌, find, filter, map, length, arith, eq-eqb, eqb-true}
use Rattle.std.specs.List.{AllByRecursion, list_any}
use Rattle.std.specs.Option.{option_map_or}
use Rattle.std.specs.Prelude.{◌==◌, nat_le, nat_lt, if◌then◌else◌}
use Rattle.std.proofs.lemmas.Bool.{cond_both, cond-true, cond-false, and_from, and_parts, and_right, cases_Bool, leb-false, ltb-true, lt-ltb, or_left, or_right, or_cases, or_parts}
use Rattle.stun_endpoints.specs.declared.endpoints.Endpoint.{Endpoint}
use Rattle.stun_endpoints.specs.Endpoints.{is_endpoint}
use Rattle.ice_machine.specs.Roles.{Role, RoleDecision, keep, other_role, is_controlling, role_decision}
use Rattle.ice_machine.specs.Agents.{seconds, Waiting, Base, Pair, Request, Setup, State, is_at, is_succeeded, is_in_progress, is_frozen, is_lost, pair_priority}
use Rattle.ice_machine.specs.Events.{Check, Answer, Accepted, Refused, Event, gathers, learns, meets, ends, checks, responds, strays, arrives, sends, polls, asks, nothing, data_to}
use Rattle.ice_machine.specs.Pairs.{pair_of, fits, with_pair, with_pairs, selected, selection_score, is_selectable}
use Rattle.ice_machine.specs.Checks.{is_kin, is_fresh, is_choice, is_nominating, urgency, score, most_urgent, consent_wait, rto_of, asked, request_on, precedence}
use Rattle.ice_machine.specs.Steps.{Step, does_nothing, settled, at, changed_first, has_room, is_remote, discovered, is_base, heard, triggers, decides, checked, is_request, is_symmetric, without_request, fails, succeeds, thaws, answered, responded, changed, asks_on, is_open, polled, happens, step}
use Rattle.ice_machine.specs.Runs.{Timed}
use Rattle.ice_machine.specs.Meetings.{End, disturbed, OneAmong}
use Rattle.ice_machine.specs.Lasting.{Watch, is_way, is_minor, is_free, asked_by, is_way_answer, seen, watched, IsAnsweredBy, IsTimely, IsUsual, IsCourse, IsLasting, IsSelectedWay, IsElsewhere, HasNominated, IsCalm}
use Rattle.ice_machine.proofs.AddressesLemmas.{at_base, at_remote, endpoint_is_itself, endpoint_same}
use Rattle.ice_machine.proofs.PlacesLemmas.{neither, at_left, settled_left, asked_left, heard_left, fails_left, succeeds_left, thaws_left}
use Rattle.ice_machine.proofs.FinalLemmas.{data_goes}
use Rattle.ice_machine.proofs.RightLemmas.{IsGood, best_good}
use Rattle.ice_machine.proofs.MeetLists.{one_map, one_weaken, one_changed, one_elsewhere, one_touched, one_exact, one_is_there, IsTop, top_best, IsSome, some_best}
use Rattle.ice_machine.proofs.MeetPairs.{small_by, live_settled, triggers_valid, succeeded_valid, valid_thawed, valid_done, valid_unlost, asked_is, wait_short, choice_high, precedence_small}
use Rattle.ice_machine.proofs.MeetSteps.{moved, at_is, same_place, elsewhere_from, is_false}
use Rattle.ice_machine.proofs.MeetTurns.{opposite_keeps}

-- ---- Time

-- the consent lasts until then
pub alive_by : (gap delay now : ℕ) (w : Watch) (o : Option ℕ) (p : Pair) → gap + delay ≤ seconds 20 → now ≤ w.free_at + gap → w.free_at < p.due → IsAnsweredBy delay now o → IsLasting gap o p → now < p.expires_at
alive_by gap delay now w None p short recent ahead timely lasting = omega (arith, short, recent, ahead, lasting)
alive_by gap delay now w (Some x) p short recent ahead timely lasting = omega (arith, short, timely, lasting)

alive : (e : End) (gap delay clock now : ℕ) (w : Watch) (p : Pair) → gap + delay ≤ seconds 20 → IsTimely gap delay now w → IsSelectedWay e gap clock w p → now < p.expires_at
alive e gap delay clock now w p short timely v = alive_by gap delay now w w.asked_at p short timely.0 v.ahead timely.1 v.lasting

later_way : (e : End) (gap clock now : ℕ) (w : Watch) (p : Pair) → clock ≤ now → IsSelectedWay e gap clock w p → IsSelectedWay e gap now w p
later_way e gap clock now w p le v = record { there = v.there; component = v.component; valid = v.valid; nominated = v.nominated; past = (let n = v.past in omega (arith, n, le)); ahead = v.ahead; near = (let n = v.near in omega (arith, n, le)); lasting = v.lasting }

-- at an event's moment
has_moved : (setup : Setup) (e : End) (gap delay now : ℕ) (w : Watch) (s : State) → gap + delay ≤ seconds 20 → s.clock ≤ now → IsTimely gap delay now w → HasNominated e gap w s → HasNominated e gap w (moved setup now s)
has_moved setup e gap delay now w s short le timely a =
    one_map (IsSelectedWay e gap s.clock w) (IsSelectedWay e gap now w) (IsElsewhere e) (IsElsewhere e) (settled setup now)
    (λ p v. subst (IsSelectedWay e gap now w) (sym (live_settled setup now p v.valid (alive e gap delay s.clock now w p short timely v))) (later_way e gap s.clock now w p le v))
    (λ p away. at_left e.base e.to p (settled setup now p) (settled_left setup now p) ∙ away) s.pairs a

-- ---- A poll

asked_way : (e : End) (gap : ℕ) (w : Watch) (setup : Setup) (s : State) (fresh free : ℕ) (o : Option ℕ) (p : Pair) → free ≤ s.clock → IsLasting gap o (asked setup s fresh p) → IsSelectedWay e gap s.clock w p
    → IsSelectedWay e gap s.clock (record { free_at = free; asked_at = o }) (asked setup s fresh p)
asked_way e gap w setup s fresh free o p early lasting v =
    let again : Pair = record p { triggered = false; chosen = p.chosen || is_nominating setup s p; due = s.clock + (if is_nominating setup s p && not p.nominated then rto_of setup else consent_wait fresh) } in
    let same : asked setup s fresh p ≡ again = asked_is setup s fresh p v.valid in
    let wait : (if is_nominating setup s p && not p.nominated then rto_of setup else consent_wait fresh) ≡ consent_wait fresh =
    cond-false (is_nominating setup s p && not p.nominated) (rto_of setup) (consent_wait fresh) (and_right (is_nominating setup s p) (not p.nominated) (ap not v.nominated)) in
    let short = wait_short fresh in
    let some : 0 < consent_wait fresh = wait_some (fresh % 2_001) in
    subst (IsSelectedWay e gap s.clock (record { free_at = free; asked_at = o })) (sym same) (record {
      there = v.there;
      component = v.component;
      valid = v.valid;
      nominated = v.nominated;
      past = early;
      ahead = omega (arith, wait, some, early);
      near = omega (arith, wait, short);
      lasting = subst (IsLasting gap o) same lasting;
    })
  where
    wait_some : (n : ℕ) → 0 < (4_000 + n) * 1_000_000
    wait_some n = omega arith

-- a request on the way, the first since one was answered, or another one
pub asked_lasting : (e : End) (gap : ℕ) (w : Watch) (setup : Setup) (s : State) (fresh : ℕ) (r : Request) (o : Option ℕ) (p : Pair) → is_way e r ≡ true → s.clock ≤ w.free_at + gap → w.free_at < p.due → is_succeeded p.state ≡ true → IsLasting gap o p
    → IsLasting gap (asked_by e s.clock o (asks r)) (asked setup s fresh p)
asked_lasting e gap w setup s fresh r (Some x) p way recent ahead valid lasting = subst (IsLasting gap (Some x)) (sym (asked_is setup s fresh p valid)) lasting
asked_lasting e gap w setup s fresh r None p way recent ahead valid lasting =
    subst (λ (o : Option ℕ). IsLasting gap o (asked setup s fresh p)) (sym (cond-true (is_way e r) (Some s.clock) None way)) (subst (IsLasting gap (Some s.clock)) (sym (asked_is setup s fresh p valid)) (omega (arith, recent, ahead, lasting)))

-- another request, or none
pub other_lasting : (e : End) (gap now : ℕ) (r : Request) (o : Option ℕ) (p : Pair) → is_way e r ≡ false → IsLasting gap o p → IsLasting gap (asked_by e now o (asks r)) p
other_lasting e gap now r (Some x) p isnt lasting = lasting
other_lasting e gap now r None p isnt lasting = subst (λ (o : Option ℕ). IsLasting gap o p) (sym (cond-false (is_way e r) (Some now) None isnt)) lasting

pub none_lasting : (e : End) (gap now : ℕ) (o : Option ℕ) (p : Pair) → IsLasting gap o p → IsLasting gap (asked_by e now o nothing) p
none_lasting e gap now (Some x) p lasting = lasting
none_lasting e gap now None p lasting = lasting

-- if the way isn't asked on, it isn't due at a free poll
unasked_way : (e : End) (gap clock free : ℕ) (w : Watch) (o : Option ℕ) (p : Pair) → free ≤ clock → free < p.due → IsLasting gap o p → IsSelectedWay e gap clock w p → IsSelectedWay e gap clock (record { free_at = free; asked_at = o }) p
unasked_way e gap clock free w o p was early lasting v = record { there = v.there; component = v.component; valid = v.valid; nominated = v.nominated; past = was; ahead = early; near = v.near; lasting = lasting }

pub high_score : (setup : Setup) (s : State) (p : Pair) → 3 ≤ urgency setup s p → 2 ^ 64 * 3 ≤ score setup s p
high_score setup s p high = high_by (urgency setup s p) (if nat_lt 0 (urgency setup s p) then precedence s (urgency setup s p) p else 0) high
  where
    high_by : (u n : ℕ) → 3 ≤ u → 2 ^ 64 * 3 ≤ 2 ^ 64 * u + n
    high_by u n high = omega (arith, high)

due_high : (e : End) (gap : ℕ) (w : Watch) (setup : Setup) (s : State) (y : Pair) → IsSelectedWay e gap s.clock w y → nat_le y.due s.clock ≡ true → 2 ^ 64 * 3 ≤ score setup s y
due_high e gap w setup s y v is_due = high_score setup s y (choice_high setup s y (valid_unlost y.state v.valid) (or_right (is_choice setup s y) (is_succeeded y.state && nat_le y.due s.clock) (and_from (is_succeeded y.state) (nat_le y.due s.clock) v.valid is_due)))

abbrev after_poll : Setup → End → Watch → State → Step → Watch
after_poll setup e w s t = record { free_at = if is_free setup e s then s.clock else w.free_at; asked_at = asked_by e s.clock w.asked_at t.output }

-- each outcome of an open poll
abbrev pub Free : Setup → End → State → Option Pair → Bool
Free setup e s o = is_open s && option_map_or (is_minor setup e s) o true

pub early_by : (b : Bool) (clock free due : ℕ) → free < due → (b ≡ true → clock < due) → (if b then clock else free) < due
early_by true clock free due one two = two refl
early_by false clock free due one two = one

pub free_by : (b : Bool) (clock free : ℕ) → free ≤ clock → (if b then clock else free) ≤ clock
free_by true clock free le = omega arith
free_by false clock free le = le

polls_on : (e : End) (gap : ℕ) (w : Watch) (setup : Setup) (fresh : ℕ) (s : State) (y : Pair) (o : Option Pair) → s.clock ≤ w.free_at + gap → IsSelectedWay e gap s.clock w y → OneAmong (λ z. z ≡ y) (IsElsewhere e) s.pairs → IsTop (score setup s y) (score setup s) o
    → let t = option_map_or (asks_on setup fresh s) o (does_nothing s) in
    HasNominated e gap (record { free_at = if Free setup e s o then s.clock else w.free_at; asked_at = asked_by e s.clock w.asked_at t.output }) t.state
polls_on e gap w setup fresh s y None recent v a top =
    one_weaken (λ z. z ≡ y) (IsSelectedWay e gap s.clock (record { free_at = if Free setup e s None then s.clock else w.free_at; asked_at = asked_by e s.clock w.asked_at nothing })) (IsElsewhere e)
    (λ z same. subst (IsSelectedWay e gap s.clock (record { free_at = if Free setup e s None then s.clock else w.free_at; asked_at = asked_by e s.clock w.asked_at nothing })) (sym same)
    (unasked_way e gap s.clock (if Free setup e s None then s.clock else w.free_at) w (asked_by e s.clock w.asked_at nothing) y (free_by (Free setup e s None) s.clock w.free_at v.past)
    (early_by (Free setup e s None) s.clock w.free_at y.due v.ahead (λ _. elim (cases_Bool (nat_le y.due s.clock)) as (λ x. s.clock < y.due) [
      | inl is_due ↦ absurd (let high = due_high e gap w setup s y v is_due in omega (arith, high, top))
      | inr isnt ↦ leb-false y.due s.clock isnt
    ]))
    (none_lasting e gap s.clock w.asked_at y v.lasting) v)) s.pairs a
polls_on e gap w setup fresh s y (Some x) recent v a top = elim (cases_Bool (is_at e.base e.to x)) as (λ b. HasNominated e gap (record { free_at = if Free setup e s (Some x) then s.clock else w.free_at; asked_at = asked_by e s.clock w.asked_at (asks (request_on setup s fresh x)) }) (asks_on setup fresh s x).state) [
  | inl here ↦
      let r : Request = request_on setup s fresh x in
      one_changed (λ z. z ≡ y) (IsSelectedWay e gap s.clock (record { free_at = if Free setup e s (Some x) then s.clock else w.free_at; asked_at = asked_by e s.clock w.asked_at (asks r) })) (IsElsewhere e) (is_at x.base x.remote) (asked setup s fresh)
      (λ z same. same_place e x z here ∙ ap (is_at e.base e.to) same ∙ v.there) (λ z away. same_place e x z here ∙ away)
      (λ z same. subst (λ (q : Pair). IsSelectedWay e gap s.clock (record { free_at = if Free setup e s (Some x) then s.clock else w.free_at; asked_at = asked_by e s.clock w.asked_at (asks r) }) (asked setup s fresh q)) (sym same)
      (asked_way e gap w setup s fresh (if Free setup e s (Some x) then s.clock else w.free_at) (asked_by e s.clock w.asked_at (asks r)) y (free_by (Free setup e s (Some x)) s.clock w.free_at v.past) (asked_lasting e gap w setup s fresh r w.asked_at y here recent v.ahead v.valid v.lasting) v)) s.pairs a
  | inr away ↦
      let r : Request = request_on setup s fresh x in
      let W : Watch = record { free_at = if Free setup e s (Some x) then s.clock else w.free_at; asked_at = asked_by e s.clock w.asked_at (asks r) } in
      let b : OneAmong (λ z. z ≡ y) (IsElsewhere e) (changed_first (is_at x.base x.remote) (asked setup s fresh) s.pairs) = one_elsewhere (λ z. z ≡ y) (IsElsewhere e) (is_at x.base x.remote) (asked setup s fresh)
      (λ z same. is_false (is_at x.base x.remote z) (elsewhere_from e x z away (ap (is_at e.base e.to) same ∙ v.there))) (λ z there. at_left e.base e.to z (asked setup s fresh z) (asked_left setup s fresh z) ∙ there) s.pairs a in
      one_weaken (λ z. z ≡ y) (IsSelectedWay e gap s.clock W) (IsElsewhere e)
      (λ z same. subst (IsSelectedWay e gap s.clock W) (sym same) (unasked_way e gap s.clock (if Free setup e s (Some x) then s.clock else w.free_at) w (asked_by e s.clock w.asked_at (asks r)) y (free_by (Free setup e s (Some x)) s.clock w.free_at v.past)
      (early_by (Free setup e s (Some x)) s.clock w.free_at y.due v.ahead (λ is_free_it. elim (cases_Bool (nat_le y.due s.clock)) as (λ n. s.clock < y.due) [
        | inl is_due ↦ elim (or_cases (is_at e.base e.to x) (nat_lt (score setup s x) (2 ^ 64 * 3)) (and_parts (is_open s) (is_minor setup e s x) is_free_it).1) as (λ n. s.clock < y.due) [
          | inl there ↦ neither (s.clock < y.due) (is_at e.base e.to x) there away
          | inr minor ↦ absurd (let high = due_high e gap w setup s y v is_due in let low = ltb-true (score setup s x) (2 ^ 64 * 3) minor in omega (arith, high, low, top))
        ]
        | inr isnt ↦ leb-false y.due s.clock isnt
      ]))
      (other_lasting e gap s.clock r w.asked_at y away v.lasting) v)) (changed_first (is_at x.base x.remote) (asked setup s fresh) s.pairs) b
]

kept_poll : (setup : Setup) (e : End) (gap fresh : ℕ) (w : Watch) (s : State) → s.clock ≤ w.free_at + gap → HasNominated e gap w s → HasNominated e gap (seen setup e fresh s polls w) (polled setup fresh s).state
kept_poll setup e gap fresh w s recent a =
    let x = one_exact (IsSelectedWay e gap s.clock w) (IsElsewhere e) s.pairs a in
    let y : Pair = x.0 in
    let v : IsSelectedWay e gap s.clock w y = x.1 in
    let R : Step → Type 0 = λ t. HasNominated e gap (after_poll setup e w s t) t.state in
    let O : Step = option_map_or (asks_on setup fresh s) (most_urgent setup s) (does_nothing s) in
    elim (cases_Bool (is_open s)) as (λ b. R (polled setup fresh s)) [
      | inl shut_not ↦ subst R (sym (cond-true (is_open s) O (does_nothing s) shut_not)) (polls_on e gap w setup fresh s y (most_urgent setup s) recent v x.2 (top_best (IsElsewhere e) (score setup s) y s.pairs x.2))
      | inr shut ↦ subst R (sym (cond-false (is_open s) O (does_nothing s) shut))
          (one_weaken (IsSelectedWay e gap s.clock w) (IsSelectedWay e gap s.clock (after_poll setup e w s (does_nothing s))) (IsElsewhere e)
          (λ z u. unasked_way e gap s.clock (if is_free setup e s then s.clock else w.free_at) w (asked_by e s.clock w.asked_at nothing) z (free_by (is_free setup e s) s.clock w.free_at u.past)
          (early_by (is_free setup e s) s.clock w.free_at z.due u.ahead (λ free. neither (s.clock < z.due) (is_open s) (and_parts (is_open s) (option_map_or (is_minor setup e s) (most_urgent setup s) true) free).0 shut))
          (none_lasting e gap s.clock w.asked_at z u.lasting) u) s.pairs a)
    ]

-- ---- Candidates, and a check

pub with_elsewhere : (P : Pair → Type 0) (e : End) (most : ℕ) (p : Pair) (ps : List Pair) → ((z : Pair) → P z → is_at e.base e.to z ≡ true) → OneAmong P (IsElsewhere e) ps → OneAmong P (IsElsewhere e) (with_pair most p ps)
with_elsewhere P e most p ps there a = cond_both (list_any (is_at p.base p.remote) ps || not (nat_lt (length ps) most)) ps (p ∷ ps) (OneAmong P (IsElsewhere e)) (λ _. a)
    (λ isnt. inr (
      is_false (is_at e.base e.to p) (λ here. neither ⊥ (list_any (is_at p.base p.remote) ps)
          (one_is_there P (IsElsewhere e) (is_at p.base p.remote) (λ z v. same_place e p z here ∙ there z v) ps a) (or_parts (list_any (is_at p.base p.remote) ps) (not (nat_lt (length ps) most)) isnt).0),
      a,
    ))

pub with_all_elsewhere : (P : Pair → Type 0) (e : End) (most : ℕ) (news ps : List Pair) → ((z : Pair) → P z → is_at e.base e.to z ≡ true) → OneAmong P (IsElsewhere e) ps → OneAmong P (IsElsewhere e) (with_pairs most news ps)
with_all_elsewhere P e most [] ps there a = a
with_all_elsewhere P e most (p ∷ news) ps there a = with_elsewhere P e most p (with_pairs most news ps) there (with_all_elsewhere P e most news ps there a)

pub lasts_same : (gap : ℕ) (o : Option ℕ) (p q : Pair) → q.due ≡ p.due → q.expires_at ≡ p.expires_at → IsLasting gap o p → IsLasting gap o q
lasts_same gap None p q one other lasting = omega (arith, one, other, lasting)
lasts_same gap (Some x) p q one other lasting = omega (arith, one, other, lasting)

heard_way : (e : End) (role : Role) (gap clock : ℕ) (w : Watch) (c : Check) (p : Pair) → IsSelectedWay e gap clock w p → IsSelectedWay e gap clock w (heard role c p)
heard_way e role gap clock w c p v =
    cond_both (c.nominates && (not (is_controlling role) && not (is_lost p.state))) (record p { heard = true; nominated = true }) (record p { heard = true }) (λ (q : Pair). IsSelectedWay e gap clock w (triggers q))
    (λ _. subst (IsSelectedWay e gap clock w) (sym (triggers_valid (record p { heard = true; nominated = true }) v.valid))
    (record { there = v.there; component = v.component; valid = v.valid; nominated = refl; past = v.past; ahead = v.ahead; near = v.near; lasting = lasts_same gap w.asked_at p (record p { heard = true; nominated = true }) refl refl v.lasting }))
    (λ _. subst (IsSelectedWay e gap clock w) (sym (triggers_valid (record p { heard = true }) v.valid))
    (record { there = v.there; component = v.component; valid = v.valid; nominated = v.nominated; past = v.past; ahead = v.ahead; near = v.near; lasting = lasts_same gap w.asked_at p (record p { heard = true }) refl refl v.lasting }))

check_by : (setup : Setup) (e : End) (gap : ℕ) (w : Watch) (c : Check) (s : State) (o : Option Base) → c.role ≡ other_role s.role → HasNominated e gap w s → HasNominated e gap w (option_map_or (checked setup c s) o (does_nothing s)).state
check_by setup e gap w c s None role a = a
check_by setup e gap w c s (Some b) role a =
    let P : Pair → Type 0 = IsSelectedWay e gap s.clock w in
    let decision : role_decision s.role s.tiebreaker c.role c.tiebreaker ≡ keep = ap (λ (r : Role). role_decision s.role s.tiebreaker r c.tiebreaker) role ∙ opposite_keeps s.role s.tiebreaker c.tiebreaker in
    subst (λ (d : RoleDecision). HasNominated e gap w (decides setup b c s d).state) (sym decision)
    (one_touched P (IsElsewhere e) (is_at c.base c.from) (heard s.role c) (λ p v. heard_way e s.role gap s.clock w c p v) (λ p away. at_left e.base e.to p (heard s.role c p) (heard_left s.role c p) ∙ away)
    (with_pair setup.most_pairs (pair_of b (discovered b c)) s.pairs) (with_elsewhere P e setup.most_pairs (pair_of b (discovered b c)) s.pairs (λ z v. v.there) a))

-- ---- A response

succeeds_way : (e : End) (role : Role) (gap clock : ℕ) (w : Watch) (r : Request) (p : Pair) → IsSelectedWay e gap clock w p → IsSelectedWay e gap clock (record w { asked_at = None }) (succeeds role clock r p)
succeeds_way e role gap clock w r p v =
    let due_is : (succeeded_valid role clock r p).due ≡ p.due = cond-true (is_succeeded p.state) p.due (clock + seconds 4) v.valid in
    let near = v.near in
    subst (IsSelectedWay e gap clock (record w { asked_at = None })) (sym (cond-false (is_lost p.state) p (succeeded_valid role clock r p) (valid_unlost p.state v.valid))) (record {
      there = v.there;
      component = v.component;
      valid = refl;
      nominated = or_left p.nominated (p.chosen && (r.nominates && is_controlling role)) v.nominated;
      past = v.past;
      ahead = subst (λ (n : ℕ). w.free_at < n) (sym due_is) v.ahead;
      near = subst (λ (n : ℕ). n ≤ clock + seconds 6) (sym due_is) near;
      lasting = subst (λ (n : ℕ). n + seconds 24 ≤ clock + seconds 30) (sym due_is) (omega (arith, near));
    })

thaws_way : (e : End) (gap clock : ℕ) (w : Watch) (o : Option Pair) (p : Pair) → IsSelectedWay e gap clock w p → IsSelectedWay e gap clock w (thaws o p)
thaws_way e gap clock w None p v = v
thaws_way e gap clock w (Some q) p v = subst (IsSelectedWay e gap clock w) (sym (cond-false (is_kin q p && is_frozen p.state) (record p { state = Waiting }) p (and_right (is_kin q p) (is_frozen p.state) (valid_thawed p.state v.valid)))) v

fails_way : (e : End) (gap clock : ℕ) (w : Watch) (p : Pair) → IsSelectedWay e gap clock w p → IsSelectedWay e gap clock w (fails p)
fails_way e gap clock w p v = subst (IsSelectedWay e gap clock w) (sym (cond-false (is_in_progress p.state) _ p (valid_done p.state v.valid))) v

-- a request to the place of the way's pair is the way's
pub way_by : (e : End) (r : Request) (p : Pair) → is_at e.base e.to p ≡ true → is_at r.base r.to p ≡ true → is_way e r ≡ true
way_by e r p there same = and_from (e.base == r.base) (is_endpoint e.to r.to) (eq-eqb e.base r.base (at_base e.base e.to p there ∙ sym (at_base r.base r.to p same)))
    (subst (λ (x : Endpoint). is_endpoint e.to x ≡ true) (at_remote e.base e.to p there ∙ sym (at_remote r.base r.to p same)) (endpoint_is_itself e.to))

-- an answer that isn't the way's changes another pair alone
other_answer : (setup : Setup) (e : End) (gap fresh : ℕ) (w : Watch) (s : State) (r : Request) → is_way e r ≡ false → HasNominated e gap w s → HasNominated e gap w (answered fresh r Accepted s)
other_answer setup e gap fresh w s r isnt a =
    let P : Pair → Type 0 = IsSelectedWay e gap s.clock w in
    let after : List Pair = changed_first (is_at r.base r.to) (succeeds s.role s.clock r) s.pairs in
    let o : Option Pair = find (is_at r.base r.to) after in
    one_map P P (IsElsewhere e) (IsElsewhere e) (thaws o) (λ p v. thaws_way e gap s.clock w o p v) (λ p away. at_left e.base e.to p (thaws o p) (thaws_left o p) ∙ away) after
    (one_elsewhere P (IsElsewhere e) (is_at r.base r.to) (succeeds s.role s.clock r) (λ p v. is_false (is_at r.base r.to p) (λ same. neither ⊥ (is_way e r) (way_by e r p v.there same) isnt))
    (λ p away. at_left e.base e.to p (succeeds s.role s.clock r p) (succeeds_left s.role s.clock r p) ∙ away) s.pairs a)

way_answer : (setup : Setup) (e : End) (gap fresh : ℕ) (w : Watch) (s : State) (r : Request) → is_way e r ≡ true → HasNominated e gap w s → HasNominated e gap (record w { asked_at = None }) (answered fresh r Accepted s)
way_answer setup e gap fresh w s r is a =
    let both = and_parts (e.base == r.base) (is_endpoint e.to r.to) is in
    let P : Pair → Type 0 = IsSelectedWay e gap s.clock w in
    let R : Pair → Type 0 = IsSelectedWay e gap s.clock (record w { asked_at = None }) in
    let at_r : (p : Pair) → is_at r.base r.to p ≡ is_at e.base e.to p = λ p. ap (λ (n : ℕ). is_at n r.to p) (sym (eqb-true e.base r.base both.0)) ∙ ap (λ (x : Endpoint). is_at e.base x p) (sym (endpoint_same e.to r.to both.1)) in
    let after : List Pair = changed_first (is_at r.base r.to) (succeeds s.role s.clock r) s.pairs in
    let o : Option Pair = find (is_at r.base r.to) after in
    one_map R R (IsElsewhere e) (IsElsewhere e) (thaws o) (λ p v. thaws_way e gap s.clock (record w { asked_at = None }) o p v) (λ p away. at_left e.base e.to p (thaws o p) (thaws_left o p) ∙ away) after
    (one_changed P R (IsElsewhere e) (is_at r.base r.to) (succeeds s.role s.clock r) (λ p v. at_r p ∙ v.there) (λ p away. at_r p ∙ away) (λ p v. succeeds_way e s.role gap s.clock w r p v) s.pairs a)

failed_way : (e : End) (gap : ℕ) (w : Watch) (base : ℕ) (to : Endpoint) (s : State) → HasNominated e gap w s → HasNominated e gap w (changed fails base to s)
failed_way e gap w base to s a = one_touched (IsSelectedWay e gap s.clock w) (IsElsewhere e) (is_at base to) fails (λ p v. fails_way e gap s.clock w p v) (λ p away. at_left e.base e.to p (fails p) (fails_left p) ∙ away) s.pairs a

refusal_way : (e : End) (gap fresh code : ℕ) (w : Watch) (s : State) (r : Request) → (Refused code ≡ Refused 487 → ⊥) → HasNominated e gap w s → HasNominated e gap w (answered fresh r (Refused code) s)
refusal_way e gap fresh code w s r usual a = cond_both (code == 487) _ (changed fails r.base r.to s) (HasNominated e gap w) (λ is. absurd (usual (ap Refused (eqb-true code 487 is)))) (λ _. failed_way e gap w r.base r.to s a)

response_by : (setup : Setup) (e : End) (gap fresh base : ℕ) (from : Endpoint) (answer : Answer) (w : Watch) (s : State) (o : Option Request) → (answer ≡ Refused 487 → ⊥) → HasNominated e gap w s
    → HasNominated e gap (option_map_or (λ r. if is_way_answer e base from answer r then record w { asked_at = None } else w) o w) (option_map_or (responded fresh base from answer s) o (does_nothing s)).state
response_by setup e gap fresh base from answer w s None usual a = a
response_by setup e gap fresh base from Accepted w s (Some r) usual a =
    let t : State = without_request r.id s in
    cond_both (is_symmetric base from r) (answered fresh r Accepted t) (changed fails r.base r.to t) (λ x. HasNominated e gap (if is_way_answer e base from Accepted r then record w { asked_at = None } else w) x)
    (λ symmetric. cond_both (is_way e r && is_symmetric base from r) (record w { asked_at = None }) w (λ u. HasNominated e gap u (answered fresh r Accepted t))
    (λ is. way_answer setup e gap fresh w t r (and_parts (is_way e r) (is_symmetric base from r) is).0 a)
    (λ isnt. other_answer setup e gap fresh w t r (is_false (is_way e r) (λ way. neither ⊥ (is_way e r && is_symmetric base from r) (and_from (is_way e r) (is_symmetric base from r) way symmetric) isnt)) a))
    (λ elsewhere. subst (λ (u : Watch). HasNominated e gap u (changed fails r.base r.to t)) (sym (cond-false (is_way e r && is_symmetric base from r) (record w { asked_at = None }) w (and_right (is_way e r) (is_symmetric base from r) elsewhere)))
    (failed_way e gap w r.base r.to t a))
response_by setup e gap fresh base from (Refused code) w s (Some r) usual a =
    let t : State = without_request r.id s in
    cond_both (is_symmetric base from r) (answered fresh r (Refused code) t) (changed fails r.base r.to t) (λ x. HasNominated e gap w x)
    (λ _. refusal_way e gap fresh code w t r usual a) (λ _. failed_way e gap w r.base r.to t a)

-- ---- Events

kept_event : (setup : Setup) (e : End) (gap fresh : ℕ) (w : Watch) (s : State) (event : Event) → s.clock ≤ w.free_at + gap → IsUsual s event → HasNominated e gap w s → HasNominated e gap (seen setup e fresh s event w) (happens setup fresh s event).state
kept_event setup e gap fresh w s (gathers b) recent usual a = cond_both (has_room setup s.bases && not (list_any (is_base b.number) s.bases)) _ _ (HasNominated e gap w)
    (λ _. with_all_elsewhere (IsSelectedWay e gap s.clock w) e setup.most_pairs (map {B = Pair} (pair_of b) (filter (fits b) s.remotes)) s.pairs (λ z v. v.there) a) (λ _. a)
kept_event setup e gap fresh w s (learns r) recent usual a = cond_both (has_room setup s.remotes && not (list_any (is_remote r.component r.address) s.remotes)) _ _ (HasNominated e gap w)
    (λ _. with_all_elsewhere (IsSelectedWay e gap s.clock w) e setup.most_pairs (map {B = Pair} (λ b. pair_of b r) (filter (λ b. fits b r) s.bases)) s.pairs (λ z v. v.there) a) (λ _. a)
kept_event setup e gap fresh w s meets recent usual a = a
kept_event setup e gap fresh w s ends recent usual a = a
kept_event setup e gap fresh w s (checks c) recent usual a = check_by setup e gap w c s (find (is_base c.base) s.bases) usual a
kept_event setup e gap fresh w s (responds base from id answer) recent usual a = response_by setup e gap fresh base from answer w s (find (is_request id) s.requests) usual a
kept_event setup e gap fresh w s (strays base from id size code) recent usual a = a
kept_event setup e gap fresh w s (arrives base from bytes) recent usual a = a
kept_event setup e gap fresh w s (sends component bytes) recent usual a = a
kept_event setup e gap fresh w s polls recent usual a = kept_poll setup e gap fresh w s recent a

kept_step : (setup : Setup) (e : End) (gap delay : ℕ) (w : Watch) (s : State) (t : Timed) → gap + delay ≤ seconds 20 → s.clock ≤ t.now → IsTimely gap delay t.now w → IsUsual (at setup t.now s) t.event → HasNominated e gap w s
    → HasNominated e gap (seen setup e t.fresh (at setup t.now s) t.event w) (step setup s t.now t.fresh t.event).state
kept_step setup e gap delay w s t short le timely usual a =
    let same : at setup t.now s ≡ moved setup t.now s = at_is setup t.now s le in
    subst (λ (x : State). HasNominated e gap (seen setup e t.fresh x t.event w) (happens setup t.fresh x t.event).state) (sym same)
    (kept_event setup e gap t.fresh w (moved setup t.now s) t.event timely.0 (subst (λ (x : State). IsUsual x t.event) same usual) (has_moved setup e gap delay t.now w s short le timely a))

stays_nominated : (setup : Setup) (e : End) (gap delay : ℕ) (s : State) (w : Watch) (events : List Timed) → gap + delay ≤ seconds 20 → HasNominated e gap w s → IsCourse setup e gap delay s w events
    → HasNominated e gap (watched setup e s w events) (disturbed setup s events)
stays_nominated setup e gap delay s w [] short a course = a
stays_nominated setup e gap delay s w (t ∷ earlier) short a course =
    kept_step setup e gap delay (watched setup e s w earlier) (disturbed setup s earlier) t short course.1 course.2 course.3 (stays_nominated setup e gap delay s w earlier short a course.0)

-- ---- Data

way_score : (e : End) (gap clock : ℕ) (w : Watch) (role : Role) (p : Pair) → IsSelectedWay e gap clock w p → 0 < selection_score role e.component p
way_score e gap clock w role p v = score_by (is_selectable e.component p) (pair_priority role p) (and_from (p.component == e.component) (p.nominated && is_succeeded p.state) (eq-eqb p.component e.component v.component) (and_from p.nominated (is_succeeded p.state) v.nominated v.valid))
  where
    score_by : (b : Bool) (n : ℕ) → b ≡ true → 0 < (if b then 1 + n else 0)
    score_by true n is = omega arith
    score_by false n is = absurd cc

some_selected : (setup : Setup) (e : End) (s : State) (now fresh : ℕ) (bytes : List ℕ) (o : Option Pair) → selected e.component (at setup now s) ≡ o → IsSome o
    → (p : Pair) × (selected e.component (at setup now s) ≡ Some p) × ((step setup s now fresh (sends e.component bytes)).output ≡ data_to p.base p.remote bytes)
some_selected setup e s now fresh bytes None is some = absurd some
some_selected setup e s now fresh bytes (Some p) is some = (p, is, data_goes setup s now fresh e.component bytes p is)

pub data_lasts : (setup : Setup) (e : End) (gap delay : ℕ) (s : State) (w : Watch) (events : List Timed) (now fresh : ℕ) (bytes : List ℕ) → gap + delay ≤ seconds 20 → HasNominated e gap w s → IsCourse setup e gap delay s w events
    → let after = disturbed setup s events in after.clock ≤ now → IsTimely gap delay now (watched setup e s w events)
    → (p : Pair) × (selected e.component (at setup now after) ≡ Some p) × ((step setup after now fresh (sends e.component bytes)).output ≡ data_to p.base p.remote bytes)
data_lasts setup e gap delay s w events now fresh bytes short a course le timely =
    let after : State = disturbed setup s events in
    let u : Watch = watched setup e s w events in
    let b : HasNominated e gap u (moved setup now after) = has_moved setup e gap delay now u after short le timely (stays_nominated setup e gap delay s w events short a course) in
    some_selected setup e after now fresh bytes (selected e.component (at setup now after)) refl
    (subst (λ (x : State). IsSome (selected e.component x)) (sym (at_is setup now after le)) (some_best (IsSelectedWay e gap now u) (IsElsewhere e) (selection_score after.role e.component) (λ p v. way_score e gap now u after.role p v) (moved setup now after).pairs b))

-- ---- Free polls

calm_low : (setup : Setup) (s : State) (p : Pair) → IsCalm setup s p → urgency setup s p ≤ 2
calm_low setup s p u = cond_both (is_lost p.state) _ _ (λ n. n ≤ 2) (λ _. omega arith)
    (λ _. cond_both p.triggered _ _ (λ n. n ≤ 2) (λ is. neither (5 ≤ 2) p.triggered is u.untriggered)
    (λ _. cond_both (is_choice setup s p) _ _ (λ n. n ≤ 2) (λ is. neither (4 ≤ 2) (is_choice setup s p) is u.unchosen)
    (λ _. cond_both (is_succeeded p.state && nat_le p.due s.clock) _ _ (λ n. n ≤ 2) (λ is. neither (3 ≤ 2) (is_succeeded p.state && nat_le p.due s.clock) is u.later)
    (λ _. cond_both (is_fresh s p) _ _ (λ n. n ≤ 2) (λ _. omega arith)
    (λ _. cond_both (is_in_progress p.state && nat_le p.due s.clock) _ _ (λ n. n ≤ 2) (λ _. omega arith) (λ _. omega arith))))))

calm_minor : (setup : Setup) (e : End) (s : State) (p : Pair) → IsCalm setup s p → is_minor setup e s p ≡ true
calm_minor setup e s p u = or_right (is_at e.base e.to p) (nat_lt (score setup s p) (2 ^ 64 * 3)) (lt-ltb (score setup s p) (2 ^ 64 * 3)
    (less_by (urgency setup s p) (if nat_lt 0 (urgency setup s p) then precedence s (urgency setup s p) p else 0) (calm_low setup s p u) (small_by (nat_lt 0 (urgency setup s p)) (precedence s (urgency setup s p) p) (precedence_small s (urgency setup s p) p))))
  where
    less_by : (u n : ℕ) → u ≤ 2 → n < 2 ^ 64 → 2 ^ 64 * u + n < 2 ^ 64 * 3
    less_by u n low small = omega (arith, low, small)

free_from : (setup : Setup) (e : End) (s : State) (o : Option Pair) → IsGood (λ p. (is_at e.base e.to p ≡ true) ⊎ IsCalm setup s p) (score setup s) o → option_map_or (is_minor setup e s) o true ≡ true
free_from setup e s None good = refl
free_from setup e s (Some p) (inl here, some) = or_left (is_at e.base e.to p) (nat_lt (score setup s p) (2 ^ 64 * 3)) here
free_from setup e s (Some p) (inr calm, some) = calm_minor setup e s p calm

pub free_poll : (setup : Setup) (e : End) (s : State) → is_open s ≡ true → AllByRecursion (λ p. (is_at e.base e.to p ≡ true) ⊎ IsCalm setup s p) s.pairs → is_free setup e s ≡ true
free_poll setup e s clear each = and_from (is_open s) (option_map_or (is_minor setup e s) (most_urgent setup s) true) clear (free_from setup e s (most_urgent setup s) (best_good (λ p. (is_at e.base e.to p ≡ true) ⊎ IsCalm setup s p) (score setup s) s.pairs each))
