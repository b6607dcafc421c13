-- A valid pair keeps its consent, where consent checks take turns.
use Rattle.std.proofs.Common.{zero-le, ◌≡◌, ℕ, ◌+◌, ◌-◌, ◌*◌, ◌%◌, ◌^◌, ◌<◌, ◌≤◌, inl, inr, ◌⊎◌, Bool, true, false, not, ◌||◌, ◌&&◌, List, [], ◌∷◌, Option, None, Some, refl, sym, ap, subst, ◌∙◌, find, arith, eqb-true}
use Rattle.std.specs.Option.{option_map_or}
use Rattle.std.specs.Prelude.{◌==◌, nat_le, if◌then◌else◌, max, min}
use Rattle.std.proofs.lemmas.Bool.{cond_both, cond-true, cond-false, and_from, and_parts, and_right, cases_Bool, leb-false, leb-true, le-leb, lt-leb}
use Rattle.stun_endpoints.specs.declared.endpoints.Endpoint.{Endpoint}
use Rattle.stun_endpoints.specs.Endpoints.{is_endpoint}
use Rattle.ice_machine.specs.Agents.{seconds, Waiting, Pair, Request, Setup, State, is_at, is_succeeded, is_frozen, is_lost}
use Rattle.ice_machine.specs.Events.{Answer, Accepted, Refused, Event, gathers, learns, meets, ends, checks, responds, strays, arrives, sends, polls, asks, nothing}
use Rattle.ice_machine.specs.Checks.{is_kin, is_nominating, most_urgent, consent_wait, rto_of, asked, request_on}
use Rattle.ice_machine.specs.Steps.{Step, does_nothing, settled, at, changed, changed_first, is_request, is_symmetric, without_request, fails, succeeds, thaws, answered, responded, asks_on, is_open, polled, happens}
use Rattle.ice_machine.specs.Runs.{Timed}
use Rattle.ice_machine.specs.Bounds.{AreDistinct}
use Rattle.ice_machine.specs.Meetings.{End, IsFit, disturbed, OneAmong}
use Rattle.ice_machine.specs.Lasting.{Watch, IsElsewhere, IsConsentedWay, IsLasting, IsAnsweredBy, is_way, is_way_answer, asked_by, seen, watched}
use Rattle.ice_machine.specs.Fairness.{is_ahead, ahead, is_turn, turns_from, valid_pairs, unasked, IsPunctual, IsFairCourse, IsKeptWay, HasKept, IsDueWay, HasDue}
use Rattle.ice_machine.proofs.AddressesLemmas.{endpoint_same}
use Rattle.ice_machine.proofs.PlacesLemmas.{neither, at_left, settled_left, thaws_left, asked_left, at_distinct}
use Rattle.ice_machine.proofs.MeetLists.{one_map, one_weaken, one_changed, one_elsewhere, one_exact}
use Rattle.ice_machine.proofs.MeetPairs.{live_settled, succeeded_valid, valid_thawed, valid_unlost, asked_is, wait_short, either_short}
use Rattle.ice_machine.proofs.MeetSteps.{same_place, elsewhere_from, is_false}
use Rattle.ice_machine.proofs.FairLemmas.{Moves, happens_moves, turn_less, turn_cases, asks_few, few_changed, few_map, settled_fair, stays, responds_moves, all_distinct, happens_clock, step_clock, clock_grows, cases_polls}

-- ---- Turns

turn_if : (b c : Bool) (n m : ℕ) → c ≡ false → n ≤ 0 → (if b && c then 1 else 0) + n ≤ 0
turn_if true true n m isnt le = absurd cc
turn_if true false n m isnt le = omega (arith, le)
turn_if false c n m isnt le = omega (arith, le)

no_turns : (e : End) (setup : Setup) (s : State) (from : ℕ) (events : List Timed) → (disturbed setup s events).clock < from → turns_from setup s from events ≤ 0
no_turns e setup s from [] later = omega arith
no_turns e setup s from (t ∷ earlier) later =
    let b : State = disturbed setup s earlier in
    let clock = step_clock e setup b t in
    turn_if (is_turn setup (at setup t.now b) t.event) (nat_le from (max b.clock t.now)) (turns_from setup s from earlier) 0 (lt-leb from (max b.clock t.now) (omega (arith, later, clock))) (no_turns e setup s from earlier (omega (arith, later, clock)))

turn_less_from : (b : Bool) (x y c n m : ℕ) → x ≤ y → n ≤ m → (if b && nat_le y c then 1 else 0) + n ≤ (if b && nat_le x c then 1 else 0) + m
turn_less_from false x y c n m le few = few_zero n m few
  where
    few_zero : (n m : ℕ) → n ≤ m → 0 + n ≤ 0 + m
    few_zero n m few = omega (arith, few)
turn_less_from true x y c n m le few = elim (cases_Bool (nat_le y c)) as (λ z. (if nat_le y c then 1 else 0) + n ≤ (if nat_le x c then 1 else 0) + m) [
  | inl is ↦ let past = leb-true y c is in by_two (nat_le y c) (nat_le x c) n m (λ _. le-leb x c (omega (arith, past, le))) few
  | inr isnt ↦ by_two (nat_le y c) (nat_le x c) n m (λ is. neither _ (nat_le y c) is isnt) few
]
  where
    by_two : (b c : Bool) (n m : ℕ) → (b ≡ true → c ≡ true) → n ≤ m → (if b then 1 else 0) + n ≤ (if c then 1 else 0) + m
    by_two true true n m on few = omega (arith, few)
    by_two true false n m on few = absurd (let is = on refl in cc)
    by_two false c n m on few = omega (arith, few)

fewer_turns : (setup : Setup) (s : State) (x y : ℕ) (events : List Timed) → x ≤ y → turns_from setup s y events ≤ turns_from setup s x events
fewer_turns setup s x y [] le = omega arith
fewer_turns setup s x y (t ∷ earlier) le = let b : State = disturbed setup s earlier in
    turn_less_from (is_turn setup (at setup t.now b) t.event) x y (max b.clock t.now) (turns_from setup s y earlier) (turns_from setup s x earlier) le (fewer_turns setup s x y earlier le)

few_valid : (due : ℕ) (ps : List Pair) → ahead due ps ≤ valid_pairs ps
few_valid due [] = omega arith
few_valid due (p ∷ ps) = let rest = few_valid due ps in more (is_succeeded p.state) (nat_le p.due due) (ahead due ps) (valid_pairs ps) rest
  where
    more : (b c : Bool) (n m : ℕ) → n ≤ m → (if b && c then 1 else 0) + n ≤ (if b then 1 else 0) + m
    more true true n m le = omega (arith, le)
    more true false n m le = omega (arith, le)
    more false c n m le = omega (arith, le)

some_valid : (y : Pair) (Q : Pair → Type 0) (ps : List Pair) → is_succeeded y.state ≡ true → OneAmong (λ z. z ≡ y) Q ps → 1 ≤ valid_pairs ps
some_valid y Q [] valid one = absurd one
some_valid y Q (p ∷ ps) valid (inl here) = counted (is_succeeded p.state) (valid_pairs ps) (ap (λ (z : Pair). is_succeeded z.state) here.0 ∙ valid)
  where
    counted : (b : Bool) (n : ℕ) → b ≡ true → 1 ≤ (if b then 1 else 0) + n
    counted true n is = omega arith
    counted false n is = absurd cc
some_valid y Q (p ∷ ps) valid (inr there) = let rest = some_valid y Q ps valid there.1 in omega (arith, rest)

some_ahead : (y : Pair) (Q : Pair → Type 0) (ps : List Pair) → is_succeeded y.state ≡ true → OneAmong (λ z. z ≡ y) Q ps → 1 ≤ ahead y.due ps
some_ahead y Q [] valid one = absurd one
some_ahead y Q (p ∷ ps) valid (inl here) = counted (is_ahead y.due p) (ahead y.due ps) (ap (λ (z : Pair). is_ahead y.due z) here.0 ∙ and_from (is_succeeded y.state) (nat_le y.due y.due) valid (le-leb y.due y.due (omega arith)))
  where
    counted : (b : Bool) (n : ℕ) → b ≡ true → 1 ≤ (if b then 1 else 0) + n
    counted true n is = omega arith
    counted false n is = absurd cc
some_ahead y Q (p ∷ ps) valid (inr there) = let rest = some_ahead y Q ps valid there.1 in omega (arith, rest)

-- ---- What is kept

abbrev IsPast : (clock : ℕ) → Option ℕ → Type 0
IsPast clock None = Unit {0}
IsPast clock (Some x) = x ≤ clock

record IsKept (e : End) (gap start clock : ℕ) (o : Option ℕ) (p : Pair) : Type 0 where
  there : is_at e.base e.to p ≡ true
  valid : is_succeeded p.state ≡ true
  started : start ≤ p.due
  near : p.due ≤ clock + seconds 6
  past : IsPast clock o
  lasting : IsLasting gap o p

record Keeps (setup : Setup) (e : End) (n gap : ℕ) (s : State) (events : List Timed) (b : State) (o : Option ℕ) : Type 0 where
  pair : Pair
  kept : IsKept e gap s.clock b.clock o pair
  among : OneAmong (λ z. z ≡ pair) (IsElsewhere e) b.pairs
  turns : (turns_from setup s pair.due events + ahead pair.due b.pairs ≤ n) ⊎ (b.clock < pair.due)

-- its turn comes within a gap
in_turn : (setup : Setup) (e : End) (n gap now : ℕ) (s : State) (events : List Timed) (o : Option ℕ) → (k : Keeps setup e n gap s events (disturbed setup s events) o) → valid_pairs (disturbed setup s events).pairs ≤ n
    → ((now ≤ s.clock + gap) ⊎ (n ≤ turns_from setup s (now - gap) events)) → now ≤ k.pair.due + gap
in_turn setup e n gap now s events o k few (inl begun) = let started = k.kept.started in omega (arith, begun, started)
in_turn setup e n gap now s events o k few (inr enough) = elim (cases_Bool (nat_le now (k.pair.due + gap))) as (λ x. now ≤ k.pair.due + gap) [
  | inl is ↦ leb-true now (k.pair.due + gap) is
  | inr isnt ↦ absurd (
      let late = leb-false now (k.pair.due + gap) isnt in
      let fewer = fewer_turns setup s k.pair.due (now - gap) events (omega (arith, late)) in
      elim k.turns as (λ x. ⊥) [
        | inl counted ↦ let some = some_ahead k.pair (IsElsewhere e) (disturbed setup s events).pairs k.kept.valid k.among in omega (arith, counted, some, fewer, enough)
        | inr later ↦ let none = no_turns e setup s k.pair.due events later in let some = some_valid k.pair (IsElsewhere e) (disturbed setup s events).pairs k.kept.valid k.among in omega (arith, none, some, fewer, enough, few)
      ])
]

alive_by : (gap delay now : ℕ) (o : Option ℕ) (p : Pair) → gap + delay ≤ seconds 20 → now ≤ p.due + gap → IsAnsweredBy delay now o → IsLasting gap o p → now < p.expires_at
alive_by gap delay now None p short soon timely lasting = omega (arith, short, soon, lasting)
alive_by gap delay now (Some x) p short soon timely lasting = omega (arith, short, timely, lasting)

-- ---- An event

-- the pair after an event, with what is answered then
record Next (e : End) (gap start : ℕ) (clock : ℕ) (y : Pair) (o : Option ℕ) (t : State) : Type 0 where
  pair : Pair
  kept : IsKept e gap start clock o pair
  among : OneAmong (λ z. z ≡ pair) (IsElsewhere e) t.pairs
  next : (pair.due ≡ y.due) ⊎ (clock < pair.due)

-- the consent is at least what it was, or 30 seconds
abbrev least : (until clock : ℕ) → ℕ
least until clock = min (until - 1) (clock + seconds 30 - 1)

lasting_on : (gap clock : ℕ) (o : Option ℕ) (y p : Pair) → gap ≤ seconds 20 → y.due ≤ clock + seconds 6 → IsPast clock o → p.due ≡ y.due → least y.expires_at clock < p.expires_at → IsLasting gap o y → IsLasting gap o p
lasting_on gap clock None y p short near past same live lasting = omega (arith, near, same, live, lasting)
lasting_on gap clock (Some x) y p short near past same live lasting = omega (arith, short, past, same, live, lasting)

consented_some : (gap clock : ℕ) (o : Option ℕ) (y : Pair) → clock < y.expires_at → least y.expires_at clock < y.expires_at
consented_some gap clock o y live = omega (arith, live)

moved_next : (e : End) (cut gap start : ℕ) (o : Option ℕ) (y : Pair) (a t : State) → gap ≤ seconds 20 → a.clock < y.expires_at → IsKept e gap start a.clock o y → OneAmong (λ z. z ≡ y) (IsElsewhere e) a.pairs
    → Moves e cut y.due (least y.expires_at a.clock) a t → Next e gap start a.clock y o t
moved_next e cut gap start o y a t short live k among m =
    let last : ℕ = least y.expires_at a.clock in
    let due_now : HasDue e y.due last a = one_weaken (λ z. z ≡ y) (IsDueWay e y.due last) (IsElsewhere e)
    (λ z same. subst (IsDueWay e y.due last) (sym same) (record { there = k.there; valid = k.valid; is_due = refl; consented = consented_some gap a.clock o y live })) a.pairs among in
    let after = one_exact (IsDueWay e y.due last) (IsElsewhere e) t.pairs (m.goes.way due_now) in
    let w = after.1 in
    let same = w.is_due in
    record {
      pair = after.0;
      kept = record {
        there = w.there;
        valid = w.valid;
        started = subst (λ (n : ℕ). start ≤ n) (sym same) k.started;
        near = subst (λ (n : ℕ). n ≤ a.clock + seconds 6) (sym same) k.near;
        past = k.past;
        lasting = lasting_on gap a.clock o y after.0 short k.near k.past same w.consented k.lasting;
      };
      among = after.2;
      next = inl same;
    }

-- a request on the way
asked_next : (e : End) (gap start fresh : ℕ) (setup : Setup) (o : Option ℕ) (y x : Pair) (a : State) → IsFit setup → start ≤ a.clock → a.clock ≤ y.due + gap → is_at e.base e.to x ≡ true → IsKept e gap start a.clock o y → OneAmong (λ z. z ≡ y) (IsElsewhere e) a.pairs
    → Next e gap start a.clock y (asked_by e a.clock o (asks (request_on setup a fresh x))) (asks_on setup fresh a x).state
asked_next e gap start fresh setup o y x a fit begun soon here k among =
    let again : Pair = record y { triggered = false; chosen = y.chosen || is_nominating setup a y; due = a.clock + (if is_nominating setup a y && not y.nominated then rto_of setup else consent_wait fresh) } in
    let same : asked setup a fresh y ≡ again = asked_is setup a fresh y k.valid in
    let short : (if is_nominating setup a y && not y.nominated then rto_of setup else consent_wait fresh) ≤ seconds 6 = either_short (is_nominating setup a y && not y.nominated) (rto_of setup) (consent_wait fresh) (seconds 6) fit.prompt (wait_short fresh) in
    let some : 1 ≤ (if is_nominating setup a y && not y.nominated then rto_of setup else consent_wait fresh) = either_some (is_nominating setup a y && not y.nominated) (rto_of setup) (consent_wait fresh) (rto_some setup) (wait_some (fresh % 2_001)) in
    let r : Request = request_on setup a fresh x in
    let u : Option ℕ = asked_by e a.clock o (asks r) in
    record {
      pair = again;
      kept = record {
        there = k.there;
        valid = k.valid;
        started = omega (arith, begun);
        near = omega (arith, short);
        past = past_by o k.past;
        lasting = lasting_by o k.lasting;
      };
      among = one_changed (λ z. z ≡ y) (λ z. z ≡ again) (IsElsewhere e) (is_at x.base x.remote) (asked setup a fresh)
          (λ z is. same_place e x z here ∙ ap (is_at e.base e.to) is ∙ k.there) (λ z away. same_place e x z here ∙ away) (λ z is. ap (asked setup a fresh) is ∙ same) a.pairs among;
      next = inr (omega (arith, some));
    }
  where
    wait_some : (n : ℕ) → 1 ≤ (4_000 + n) * 1_000_000
    wait_some n = omega arith

    rto_some : (setup : Setup) → 1 ≤ rto_of setup
    rto_some setup = omega arith

    either_some : (b : Bool) (n m : ℕ) → 1 ≤ n → 1 ≤ m → 1 ≤ (if b then n else m)
    either_some true n m one other = one
    either_some false n m one other = other

    past_by : (v : Option ℕ) → IsPast a.clock v → IsPast a.clock (asked_by e a.clock v (asks (request_on setup a fresh x)))
    past_by (Some z) past = past
    past_by None past = subst (IsPast a.clock) (sym (cond-true (is_at e.base e.to x) (Some a.clock) None here)) (omega arith)

    lasting_by : (v : Option ℕ) → IsLasting gap v y → IsLasting gap (asked_by e a.clock v (asks (request_on setup a fresh x))) (record y { triggered = false; chosen = y.chosen || is_nominating setup a y; due = a.clock + (if is_nominating setup a y && not y.nominated then rto_of setup else consent_wait fresh) })
    lasting_by (Some z) lasting = lasting
    lasting_by None lasting = subst (λ (v : Option ℕ). IsLasting gap v (record y { triggered = false; chosen = y.chosen || is_nominating setup a y; due = a.clock + (if is_nominating setup a y && not y.nominated then rto_of setup else consent_wait fresh) })) (sym (cond-true (is_at e.base e.to x) (Some a.clock) None here)) (omega (arith, soon, lasting))

none_asked : (e : End) (now : ℕ) (o : Option ℕ) → asked_by e now o nothing ≡ o
none_asked e now None = refl
none_asked e now (Some x) = refl

other_asked : (e : End) (now : ℕ) (r : Request) (o : Option ℕ) → is_way e r ≡ false → asked_by e now o (asks r) ≡ o
other_asked e now r None isnt = cond-false (is_way e r) (Some now) None isnt
other_asked e now r (Some x) isnt = refl

asks_next : (e : End) (gap start fresh : ℕ) (setup : Setup) (o : Option ℕ) (y : Pair) (a : State) (best_one : Option Pair) → IsFit setup → gap ≤ seconds 20 → a.clock < y.expires_at → start ≤ a.clock → a.clock ≤ y.due + gap → IsKept e gap start a.clock o y → OneAmong (λ z. z ≡ y) (IsElsewhere e) a.pairs
    → let t = option_map_or (asks_on setup fresh a) best_one (does_nothing a) in Next e gap start a.clock y (asked_by e a.clock o t.output) t.state
asks_next e gap start fresh setup o y a None fit short live begun soon k among =
    subst (λ (v : Option ℕ). Next e gap start a.clock y v a) (sym (none_asked e a.clock o)) (moved_next e 0 gap start o y a a short live k among (stays e 0 y.due (least y.expires_at a.clock) a))
asks_next e gap start fresh setup o y a (Some x) fit short live begun soon k among = elim (cases_Bool (is_at e.base e.to x)) as (λ b. Next e gap start a.clock y (asked_by e a.clock o (asks (request_on setup a fresh x))) (asks_on setup fresh a x).state) [
  | inl here ↦ asked_next e gap start fresh setup o y x a fit begun soon here k among
  | inr away ↦ subst (λ (v : Option ℕ). Next e gap start a.clock y v (asks_on setup fresh a x).state) (sym (other_asked e a.clock (request_on setup a fresh x) o away))
      (record {
        pair = y;
        kept = k;
        among = one_elsewhere (λ z. z ≡ y) (IsElsewhere e) (is_at x.base x.remote) (asked setup a fresh)
            (λ z same. is_false (is_at x.base x.remote z) (elsewhere_from e x z away (ap (is_at e.base e.to) same ∙ k.there))) (λ z there. at_left e.base e.to z (asked setup a fresh z) (asked_left setup a fresh z) ∙ there) a.pairs among;
        next = inl refl;
      })
]

polls_next : (e : End) (gap start fresh : ℕ) (setup : Setup) (o : Option ℕ) (y : Pair) (a : State) → IsFit setup → gap ≤ seconds 20 → a.clock < y.expires_at → start ≤ a.clock → a.clock ≤ y.due + gap → IsKept e gap start a.clock o y → OneAmong (λ z. z ≡ y) (IsElsewhere e) a.pairs
    → Next e gap start a.clock y (asked_by e a.clock o (polled setup fresh a).output) (polled setup fresh a).state
polls_next e gap start fresh setup o y a fit short live begun soon k among =
    cond_both (is_open a) (option_map_or (asks_on setup fresh a) (most_urgent setup a) (does_nothing a)) (does_nothing a) (λ (t : Step). Next e gap start a.clock y (asked_by e a.clock o t.output) t.state)
    (λ _. asks_next e gap start fresh setup o y a (most_urgent setup a) fit short live begun soon k among) (λ _. asks_next e gap start fresh setup o y a None fit short live begun soon k among)

-- an answer to a request on the way
record IsRenewed (e : End) (due until : ℕ) (p : Pair) : Type 0 where
  there : is_at e.base e.to p ≡ true
  valid : is_succeeded p.state ≡ true
  is_due : p.due ≡ due
  consented : p.expires_at ≡ until

thaws_renewed : (e : End) (due until : ℕ) (o : Option Pair) (p : Pair) → IsRenewed e due until p → IsRenewed e due until (thaws o p)
thaws_renewed e due until None p v = v
thaws_renewed e due until (Some q) p v = subst (IsRenewed e due until) (sym (cond-false (is_kin q p && is_frozen p.state) (record p { state = Waiting }) p (and_right (is_kin q p) (is_frozen p.state) (valid_thawed p.state v.valid)))) v

way_renewed : (e : End) (gap start fresh : ℕ) (o : Option ℕ) (y : Pair) (r : Request) (a : State) → is_way e r ≡ true → IsKept e gap start a.clock o y → OneAmong (λ z. z ≡ y) (IsElsewhere e) a.pairs → Next e gap start a.clock y None (answered fresh r Accepted a)
way_renewed e gap start fresh o y r a is k among =
    let both = and_parts (e.base == r.base) (is_endpoint e.to r.to) is in
    let R : Pair → Type 0 = IsRenewed e y.due (a.clock + seconds 30) in
    let at_r : (p : Pair) → is_at r.base r.to p ≡ is_at e.base e.to p = λ p. ap (λ (n : ℕ). is_at n r.to p) (sym (eqb-true e.base r.base both.0)) ∙ ap (λ (x : Endpoint). is_at e.base x p) (sym (endpoint_same e.to r.to both.1)) in
    let after : List Pair = changed_first (is_at r.base r.to) (succeeds a.role a.clock r) a.pairs in
    let f : Option Pair = find (is_at r.base r.to) after in
    let due_is : (succeeded_valid a.role a.clock r y).due ≡ y.due = cond-true (is_succeeded y.state) y.due (a.clock + seconds 4) k.valid in
    let new : R (succeeds a.role a.clock r y) = subst R (sym (cond-false (is_lost y.state) y (succeeded_valid a.role a.clock r y) (valid_unlost y.state k.valid))) (record { there = k.there; valid = refl; is_due = due_is; consented = refl }) in
    let last : OneAmong R (IsElsewhere e) (answered fresh r Accepted a).pairs = one_map R R (IsElsewhere e) (IsElsewhere e) (thaws f) (λ p v. thaws_renewed e y.due (a.clock + seconds 30) f p v) (λ p away. at_left e.base e.to p (thaws f p) (thaws_left f p) ∙ away) after
    (one_changed (λ z. z ≡ y) R (IsElsewhere e) (is_at r.base r.to) (succeeds a.role a.clock r) (λ z same. at_r z ∙ ap (is_at e.base e.to) same ∙ k.there) (λ z away. at_r z ∙ away)
    (λ z same. subst (λ (p : Pair). R (succeeds a.role a.clock r p)) (sym same) new) a.pairs among) in
    let z = one_exact R (IsElsewhere e) (answered fresh r Accepted a).pairs last in
    let v = z.1 in
    let same = v.is_due in
    let until = v.consented in
    let near = k.near in
    record {
      pair = z.0;
      kept = record {
        there = v.there;
        valid = v.valid;
        started = subst (λ (n : ℕ). start ≤ n) (sym same) k.started;
        near = subst (λ (n : ℕ). n ≤ a.clock + seconds 6) (sym same) k.near;
        past = tt;
        lasting = omega (arith, same, until, near);
      };
      among = z.2;
      next = inl same;
    }

responds_next : (e : End) (gap start fresh base : ℕ) (from : Endpoint) (answer : Answer) (w : Watch) (y : Pair) (a : State) (known : Option Request) → gap ≤ seconds 20 → a.clock < y.expires_at → IsKept e gap start a.clock w.asked_at y → OneAmong (λ z. z ≡ y) (IsElsewhere e) a.pairs
    → Next e gap start a.clock y (option_map_or (λ r. if is_way_answer e base from answer r then record w { asked_at = None } else w) known w).asked_at (option_map_or (responded fresh base from answer a) known (does_nothing a)).state
responds_next e gap start fresh base from answer w y a None short live k among = moved_next e 0 gap start w.asked_at y a a short live k among (stays e 0 y.due (least y.expires_at a.clock) a)
responds_next e gap start fresh base from Accepted w y a (Some r) short live k among =
    let t : State = without_request r.id a in
    cond_both (is_way e r && is_symmetric base from r) (record w { asked_at = None }) w (λ (u : Watch). Next e gap start a.clock y u.asked_at (responded fresh base from Accepted a r).state)
    (λ is. let both = and_parts (is_way e r) (is_symmetric base from r) is in
    subst (Next e gap start a.clock y None) (sym (cond-true (is_symmetric base from r) (answered fresh r Accepted t) (changed fails r.base r.to t) both.1)) (way_renewed e gap start fresh w.asked_at y r t both.0 k among))
    (λ _. moved_next e 0 gap start w.asked_at y a (responded fresh base from Accepted a r).state short live k among (responds_moves e 0 y.due (least y.expires_at a.clock) fresh base from Accepted a (Some r) zero-le (omega arith)))
responds_next e gap start fresh base from (Refused code) w y a (Some r) short live k among =
    moved_next e 0 gap start w.asked_at y a (responded fresh base from (Refused code) a r).state short live k among (responds_moves e 0 y.due (least y.expires_at a.clock) fresh base from (Refused code) a (Some r) zero-le (omega arith))

event_next : (e : End) (gap start fresh : ℕ) (setup : Setup) (w : Watch) (y : Pair) (a : State) (event : Event) → IsFit setup → gap ≤ seconds 20 → a.clock < y.expires_at → start ≤ a.clock → a.clock ≤ y.due + gap → IsKept e gap start a.clock w.asked_at y → OneAmong (λ z. z ≡ y) (IsElsewhere e) a.pairs
    → Next e gap start a.clock y (seen setup e fresh a event w).asked_at (happens setup fresh a event).state
event_next e gap start fresh setup w y a (gathers b) fit short live begun soon k among = moved_next e 0 gap start w.asked_at y a (happens setup fresh a (gathers b)).state short live k among (happens_moves e 0 y.due (least y.expires_at a.clock) setup fresh a (gathers b) zero-le (omega arith) (λ is. absurd cc))
event_next e gap start fresh setup w y a (learns r) fit short live begun soon k among = moved_next e 0 gap start w.asked_at y a (happens setup fresh a (learns r)).state short live k among (happens_moves e 0 y.due (least y.expires_at a.clock) setup fresh a (learns r) zero-le (omega arith) (λ is. absurd cc))
event_next e gap start fresh setup w y a meets fit short live begun soon k among = moved_next e 0 gap start w.asked_at y a (happens setup fresh a meets).state short live k among (happens_moves e 0 y.due (least y.expires_at a.clock) setup fresh a meets zero-le (omega arith) (λ is. absurd cc))
event_next e gap start fresh setup w y a ends fit short live begun soon k among = moved_next e 0 gap start w.asked_at y a (happens setup fresh a ends).state short live k among (happens_moves e 0 y.due (least y.expires_at a.clock) setup fresh a ends zero-le (omega arith) (λ is. absurd cc))
event_next e gap start fresh setup w y a (checks c) fit short live begun soon k among = moved_next e 0 gap start w.asked_at y a (happens setup fresh a (checks c)).state short live k among (happens_moves e 0 y.due (least y.expires_at a.clock) setup fresh a (checks c) zero-le (omega arith) (λ is. absurd cc))
event_next e gap start fresh setup w y a (responds base from id answer) fit short live begun soon k among = responds_next e gap start fresh base from answer w y a (find (is_request id) a.requests) short live k among
event_next e gap start fresh setup w y a (strays base from id size code) fit short live begun soon k among = moved_next e 0 gap start w.asked_at y a a short live k among (stays e 0 y.due (least y.expires_at a.clock) a)
event_next e gap start fresh setup w y a (arrives base from bytes) fit short live begun soon k among = moved_next e 0 gap start w.asked_at y a a short live k among (stays e 0 y.due (least y.expires_at a.clock) a)
event_next e gap start fresh setup w y a (sends component bytes) fit short live begun soon k among = moved_next e 0 gap start w.asked_at y a a short live k among (stays e 0 y.due (least y.expires_at a.clock) a)
event_next e gap start fresh setup w y a polls fit short live begun soon k among = polls_next e gap start fresh setup w.asked_at y a fit short live begun soon k among

-- ---- How many are ahead

not_turn : (setup : Setup) (a : State) (event : Event) → (event ≡ polls → ⊥) → is_turn setup a event ≡ false
not_turn setup a (gathers b) isnt = refl
not_turn setup a (learns r) isnt = refl
not_turn setup a meets isnt = refl
not_turn setup a ends isnt = refl
not_turn setup a (checks c) isnt = refl
not_turn setup a (responds base from id answer) isnt = refl
not_turn setup a (strays base from id size code) isnt = refl
not_turn setup a (arrives base from bytes) isnt = refl
not_turn setup a (sends component bytes) isnt = refl
not_turn setup a polls isnt = absurd (isnt refl)

asks_fewer : (due fresh : ℕ) (setup : Setup) (a : State) (o : Option Pair) → due ≤ a.clock → ahead due (option_map_or (asks_on setup fresh a) o (does_nothing a)).state.pairs ≤ ahead due a.pairs
asks_fewer due fresh setup a None past = omega arith
asks_fewer due fresh setup a (Some x) past = few_changed due (is_at x.base x.remote) (asked setup a fresh) (asks_few due setup a fresh x past) a.pairs

polls_fewer : (due fresh : ℕ) (setup : Setup) (a : State) → due ≤ a.clock → ahead due (polled setup fresh a).state.pairs ≤ ahead due a.pairs
polls_fewer due fresh setup a past = cond_both (is_open a) (option_map_or (asks_on setup fresh a) (most_urgent setup a) (does_nothing a)) (does_nothing a) (λ (t : Step). ahead due t.state.pairs ≤ ahead due a.pairs)
    (λ _. asks_fewer due fresh setup a (most_urgent setup a) past) (λ _. omega arith)

fewer : (e : End) (gap start fresh : ℕ) (setup : Setup) (o : Option ℕ) (y : Pair) (a : State) (event : Event) → y.due ≤ a.clock → a.clock < 2 ^ 64 → a.clock < y.expires_at → AreDistinct a.pairs → IsKept e gap start a.clock o y → OneAmong (λ z. z ≡ y) (IsElsewhere e) a.pairs
    → (if is_turn setup a event then 1 else 0) + ahead y.due (happens setup fresh a event).state.pairs ≤ ahead y.due a.pairs
fewer e gap start fresh setup o y a event past small live distinct k among = elim (cases_polls event) as (λ x. (if is_turn setup a event then 1 else 0) + ahead y.due (happens setup fresh a event).state.pairs ≤ ahead y.due a.pairs) [
  | inl is ↦ subst (λ (v : Event). (if is_turn setup a v then 1 else 0) + ahead y.due (happens setup fresh a v).state.pairs ≤ ahead y.due a.pairs) (sym is)
      (turn_cases (is_turn setup a polls) (ahead y.due (polled setup fresh a).state.pairs) (ahead y.due a.pairs)
      (λ turn. turn_less e y.due a.clock setup fresh a small past distinct
      (one_weaken (λ z. z ≡ y) (IsDueWay e y.due a.clock) (IsElsewhere e) (λ z same. subst (IsDueWay e y.due a.clock) (sym same) (record { there = k.there; valid = k.valid; is_due = refl; consented = live })) a.pairs among) turn)
      (polls_fewer y.due fresh setup a past))
  | inr isnt ↦ turn_cases (is_turn setup a event) (ahead y.due (happens setup fresh a event).state.pairs) (ahead y.due a.pairs) (λ turn. neither _ (is_turn setup a event) turn (not_turn setup a event isnt))
      (happens_moves e y.due y.due a.clock setup fresh a event past (omega arith) isnt).goes.few
]

-- ---- A run

turn_and : (b c : Bool) (f m k n : ℕ) → (if b then 1 else 0) + m ≤ k → f + k ≤ n → ((if b && c then 1 else 0) + f) + m ≤ n
turn_and true true f m k n one other = omega (arith, one, other)
turn_and true false f m k n one other = omega (arith, one, other)
turn_and false c f m k n one other = omega (arith, one, other)

later_past : (c d : ℕ) (o : Option ℕ) → c ≤ d → IsPast c o → IsPast d o
later_past c d None le past = tt
later_past c d (Some x) le past = omega (arith, le, past)

kept_step : (setup : Setup) (e : End) (n gap delay : ℕ) (s : State) (t : Timed) (earlier : List Timed) → IsFit setup → gap + delay ≤ seconds 20 → let b = disturbed setup s earlier in let w = watched setup e s unasked earlier in
    AreDistinct b.pairs → b.clock ≤ t.now → t.now < 2 ^ 64 → valid_pairs b.pairs ≤ n → IsPunctual setup e n gap delay s earlier t.now → Keeps setup e n gap s earlier b w.asked_at
    → Keeps setup e n gap s (t ∷ earlier) (disturbed setup s (t ∷ earlier)) (watched setup e s unasked (t ∷ earlier)).asked_at
kept_step setup e n gap delay s t earlier fit short distinct le small few punctual k =
    let b : State = disturbed setup s earlier in
    let w : Watch = watched setup e s unasked earlier in
    let a : State = at setup t.now b in
    let y : Pair = k.pair in
    let grown = clock_grows e setup s earlier in
    let soon : t.now ≤ y.due + gap = in_turn setup e n gap t.now s earlier w.asked_at k few punctual.0 in
    let alive : t.now < y.expires_at = alive_by gap delay t.now w.asked_at y short soon punctual.1 k.kept.lasting in
    let live : max b.clock t.now < y.expires_at = omega (arith, alive, le) in
    let near = k.kept.near in
    let now : IsKept e gap s.clock a.clock w.asked_at y = record {
      there = k.kept.there;
      valid = k.kept.valid;
      started = k.kept.started;
      near = omega (arith, near);
      past = later_past b.clock (max b.clock t.now) w.asked_at (omega arith) k.kept.past;
      lasting = k.kept.lasting;
    } in
    let among : OneAmong (λ z. z ≡ y) (IsElsewhere e) a.pairs = one_map (λ z. z ≡ y) (λ z. z ≡ y) (IsElsewhere e) (IsElsewhere e) (settled setup (max b.clock t.now))
    (λ z same. ap (settled setup (max b.clock t.now)) same ∙ live_settled setup (max b.clock t.now) y k.kept.valid live)
    (λ z away. at_left e.base e.to z (settled setup (max b.clock t.now) z) (settled_left setup (max b.clock t.now) z) ∙ away) b.pairs k.among in
    let x = event_next e gap s.clock t.fresh setup w y a t.event fit (omega (arith, short)) live (omega (arith, grown)) (omega (arith, soon, le)) now among in
    let after : State = disturbed setup s (t ∷ earlier) in
    let clock : after.clock ≡ a.clock = happens_clock e setup t.fresh a t.event in
    let settled_few : ahead y.due a.pairs ≤ ahead y.due b.pairs = few_map y.due (max b.clock t.now) (settled setup (max b.clock t.now)) (λ p. settled_fair y.due (max b.clock t.now) setup (max b.clock t.now) p (omega arith)) b.pairs in
    let counted : turns_from setup s y.due earlier + ahead y.due a.pairs ≤ n = elim k.turns as (λ z. turns_from setup s y.due earlier + ahead y.due a.pairs ≤ n) [
      | inl before ↦ omega (arith, before, settled_few)
      | inr later ↦ let none = no_turns e setup s y.due earlier later in let valid_few = few_valid y.due b.pairs in omega (arith, none, valid_few, few, settled_few)
    ] in
    record {
      pair = x.pair;
      kept = subst (λ (c : ℕ). IsKept e gap s.clock c (watched setup e s unasked (t ∷ earlier)).asked_at x.pair) (sym clock) x.kept;
      among = x.among;
      turns = elim x.next as (λ z. (turns_from setup s x.pair.due (t ∷ earlier) + ahead x.pair.due after.pairs ≤ n) ⊎ (after.clock < x.pair.due)) [
        | inl same ↦ elim (cases_Bool (nat_le y.due a.clock)) as (λ z. (turns_from setup s x.pair.due (t ∷ earlier) + ahead x.pair.due after.pairs ≤ n) ⊎ (after.clock < x.pair.due)) [
          | inl past ↦ inl (subst (λ (d : ℕ). turns_from setup s d (t ∷ earlier) + ahead d after.pairs ≤ n) (sym same)
              (turn_and (is_turn setup a t.event) (nat_le y.due a.clock) (turns_from setup s y.due earlier) (ahead y.due after.pairs) (ahead y.due a.pairs) n
              (fewer e gap s.clock t.fresh setup w.asked_at y a t.event (leb-true y.due a.clock past) (omega (arith, small, le)) live (at_distinct setup t.now b distinct) now among) counted))
          | inr isnt ↦ let later = leb-false y.due a.clock isnt in inr (omega (arith, later, clock, same))
        ]
        | inr later ↦ inr (omega (arith, later, clock))
      ];
    }

kept_run : (setup : Setup) (e : End) (n gap delay : ℕ) (s : State) (events : List Timed) → IsFit setup → gap + delay ≤ seconds 20 → AreDistinct s.pairs → HasKept e s → IsFairCourse setup e n gap delay s events → valid_pairs (disturbed setup s events).pairs ≤ n
    → Keeps setup e n gap s events (disturbed setup s events) (watched setup e s unasked events).asked_at
kept_run setup e n gap delay s [] fit short distinct has course few =
    let y = one_exact (IsKeptWay e s.clock) (IsElsewhere e) s.pairs has in
    let v = y.1 in
    let valid_few = few_valid y.0.due s.pairs in
    record {
      pair = y.0;
      kept = record { there = v.there; valid = v.valid; started = v.ahead; near = v.near; past = tt; lasting = v.lasting };
      among = y.2;
      turns = inl (omega (arith, valid_few, few));
    }
kept_run setup e n gap delay s (t ∷ earlier) fit short distinct has course few =
    kept_step setup e n gap delay s t earlier fit short (all_distinct setup s earlier distinct) course.1 course.2 course.3 course.4 (kept_run setup e n gap delay s earlier fit short distinct has course.0 course.3)

pub is_kept : (setup : Setup) (e : End) (n gap delay : ℕ) (s : State) (events : List Timed) (now : ℕ) → IsFit setup → gap + delay ≤ seconds 20 → AreDistinct s.pairs → HasKept e s → IsFairCourse setup e n gap delay s events → let after = disturbed setup s events in
    after.clock ≤ now → valid_pairs after.pairs ≤ n → IsPunctual setup e n gap delay s events now → OneAmong (IsConsentedWay e now) (IsElsewhere e) (at setup now after).pairs
is_kept setup e n gap delay s events now fit short distinct has course le few punctual =
    let b : State = disturbed setup s events in
    let o : Option ℕ = (watched setup e s unasked events).asked_at in
    let k : Keeps setup e n gap s events b o = kept_run setup e n gap delay s events fit short distinct has course few in
    let soon : now ≤ k.pair.due + gap = in_turn setup e n gap now s events o k few punctual.0 in
    let alive : now < k.pair.expires_at = alive_by gap delay now o k.pair short soon punctual.1 k.kept.lasting in
    one_map (λ z. z ≡ k.pair) (IsConsentedWay e now) (IsElsewhere e) (IsElsewhere e) (settled setup (max b.clock now))
    (λ z same. subst (IsConsentedWay e now) (sym (ap (settled setup (max b.clock now)) same ∙ live_settled setup (max b.clock now) k.pair k.kept.valid (omega (arith, alive, le)))) (record { there = k.kept.there; valid = k.kept.valid; consented = alive }))
    (λ z away. at_left e.base e.to z (settled setup (max b.clock now) z) (settled_left setup (max b.clock now) z) ∙ away) b.pairs k.among
