-- A triggered check is sent, and its answer makes the way valid.
use Rattle.std.proofs.Common.{◌≡◌, ℕ, ◌+◌, ◌*◌, ◌%◌, ◌^◌, ◌<◌, ◌≤◌, inl, inr, ◌⊎◌, Bool, true, false, not, ◌||◌, ◌&&◌, List, [], ◌∷◌, Option, None, Some, refl, sym, ap, subst, ◌∙◌, find, filter, map, arith, eqb-true}
use Rattle.std.specs.List.{list_any}
use Rattle.std.specs.Option.{option_map_or}
use Rattle.std.specs.Prelude.{◌==◌, nat_le, nat_lt, if◌then◌else◌}
use Rattle.std.proofs.lemmas.Bool.{cond_both, cond-true, cond-false, and_from, and_parts, and_right, cases_Bool, leb-false, ltb-true, or_right, or_cases, or_parts}
use Rattle.stun_endpoints.specs.declared.endpoints.Endpoint.{Endpoint}
use Rattle.stun_endpoints.specs.Endpoints.{is_endpoint}
use Rattle.ice_machine.specs.Roles.{Role, RoleDecision, keep, other_role, is_controlling, role_decision}
use Rattle.ice_machine.specs.Agents.{seconds, Waiting, InProgress, Failed, Base, Pair, Request, Setup, State, is_at, is_succeeded, is_in_progress, is_frozen, is_lost}
use Rattle.ice_machine.specs.Events.{Check, Answer, Accepted, Refused, Event, gathers, learns, meets, ends, checks, responds, strays, arrives, sends, polls, asks, nothing}
use Rattle.ice_machine.specs.Pairs.{pair_of, fits, with_pair}
use Rattle.ice_machine.specs.Checks.{is_kin, is_choice, is_nominating, score, most_urgent, consent_wait, rto_of, asked, request_on}
use Rattle.ice_machine.specs.Steps.{Step, does_nothing, is_unanswered, is_over, settled, at, changed_first, has_room, is_remote, discovered, is_base, heard, triggers, decides, checked, is_request, is_symmetric, without_request, fails, succeeds, thaws, answered, responded, changed, asks_on, is_open, polled, happens}
use Rattle.ice_machine.specs.Runs.{Timed}
use Rattle.ice_machine.specs.Meetings.{End, disturbed, IsFit, OneAmong}
use Rattle.ice_machine.specs.Lasting.{Watch, is_way, is_minor, is_free, asked_by, is_way_answer, seen, watched, IsAnsweredBy, IsTimely, IsUsual, IsCourse, IsLasting, IsElsewhere, IsPending, IsValidWay, IsFollowedWay, HasTriggered, IsConsentedWay}
use Rattle.ice_machine.proofs.AddressesLemmas.{endpoint_same}
use Rattle.ice_machine.proofs.PlacesLemmas.{neither, at_left, settled_left, asked_left, heard_left, fails_left, succeeds_left, thaws_left}
use Rattle.ice_machine.proofs.MeetLists.{one_map, one_weaken, one_changed, one_elsewhere, one_touched, one_exact, IsTop, top_best}
use Rattle.ice_machine.proofs.MeetPairs.{either_short, triggered_high, live_settled, succeeded_valid, valid_thawed, valid_done, valid_unlost, asked_is, wait_short, choice_high}
use Rattle.ice_machine.proofs.MeetSteps.{moved, at_is, same_place, elsewhere_from, is_false}
use Rattle.ice_machine.proofs.LastingLemmas.{alive_by, asked_lasting, high_score, Free, early_by, free_by, lasts_same, way_by, with_elsewhere, with_all_elsewhere}
use Rattle.ice_machine.proofs.MeetTurns.{opposite_keeps}

-- ---- Time

pub valid_alive : (gap delay clock now : ℕ) (w : Watch) (p : Pair) → gap + delay ≤ seconds 20 → IsTimely gap delay now w → IsValidWay gap clock w p → now < p.expires_at
valid_alive gap delay clock now w p short timely v = alive_by gap delay now w w.asked_at p short timely.0 v.ahead timely.1 v.lasting

pub later_valid : (gap clock now : ℕ) (w : Watch) (p : Pair) → clock ≤ now → IsValidWay gap clock w p → IsValidWay gap now w p
later_valid gap clock now w p le v = record { valid = v.valid; ahead = v.ahead; near = (let n = v.near in omega (arith, n, le)); lasting = v.lasting }

pending_same : (gap limit : ℕ) (w : Watch) (o : Option ℕ) (p q : Pair) → q.triggered ≡ p.triggered → IsPending gap limit w o p → IsPending gap limit w o q
pending_same gap limit w None p q same is = (same ∙ is.0, is.1)
pending_same gap limit w (Some x) p q same is = is

moved_pending : (setup : Setup) (e : End) (gap limit now : ℕ) (w : Watch) (p : Pair) → w.free_at ≤ now → is_at e.base e.to p ≡ true → is_lost p.state ≡ false → is_succeeded p.state ≡ false → IsPending gap limit w w.asked_at p → IsFollowedWay e gap limit now w (settled setup now p)
moved_pending setup e gap limit now w p past there unlost invalid is = cond_both (is_unanswered setup now p) _ _ (IsFollowedWay e gap limit now w)
    (λ _. record { there = there; unlost = refl; past = past; state = inr (refl, pending_same gap limit w w.asked_at p (record p { state = Failed }) refl is) })
    (λ _. cond_both (is_over now p) _ _ (IsFollowedWay e gap limit now w) (λ over. neither (IsFollowedWay e gap limit now w _) (is_succeeded p.state) (and_parts (is_succeeded p.state) (nat_le p.expires_at now) over).0 invalid)
    (λ _. record { there = there; unlost = unlost; past = past; state = inr (invalid, is) }))

has_moved : (setup : Setup) (e : End) (gap delay limit now : ℕ) (w : Watch) (s : State) → gap + delay ≤ seconds 20 → s.clock ≤ now → IsTimely gap delay now w → HasTriggered e gap limit w s → HasTriggered e gap limit w (moved setup now s)
has_moved setup e gap delay limit now w s short le timely a =
    one_map (IsFollowedWay e gap limit s.clock w) (IsFollowedWay e gap limit now w) (IsElsewhere e) (IsElsewhere e) (settled setup now)
    (λ p f. let past : w.free_at ≤ now = (let l = f.past in omega (arith, l, le)) in
    elim f.state as (λ x. IsFollowedWay e gap limit now w (settled setup now p)) [
      | inl v ↦ subst (IsFollowedWay e gap limit now w) (sym (live_settled setup now p v.valid (valid_alive gap delay s.clock now w p short timely v))) (record { there = f.there; unlost = f.unlost; past = past; state = inl (later_valid gap s.clock now w p le v) })
      | inr q ↦ moved_pending setup e gap limit now w p past f.there f.unlost q.0 q.1
    ])
    (λ p away. at_left e.base e.to p (settled setup now p) (settled_left setup now p) ∙ away) s.pairs a

-- ---- A poll

-- a request on the way
pub asked_valid : (e : End) (gap : ℕ) (w : Watch) (setup : Setup) (s : State) (fresh free : ℕ) (r : Request) (p : Pair) → IsFit setup → free ≤ s.clock → is_way e r ≡ true → s.clock ≤ w.free_at + gap → IsValidWay gap s.clock w p
    → IsValidWay gap s.clock (record { free_at = free; asked_at = asked_by e s.clock w.asked_at (asks r) }) (asked setup s fresh p)
asked_valid e gap w setup s fresh free r p fit early way recent v =
    let o : Option ℕ = asked_by e s.clock w.asked_at (asks r) in
    let again : Pair = record p { triggered = false; chosen = p.chosen || is_nominating setup s p; due = s.clock + (if is_nominating setup s p && not p.nominated then rto_of setup else consent_wait fresh) } in
    let same : asked setup s fresh p ≡ again = asked_is setup s fresh p v.valid in
    let short : (if is_nominating setup s p && not p.nominated then rto_of setup else consent_wait fresh) ≤ seconds 6 = either_short (is_nominating setup s p && not p.nominated) (rto_of setup) (consent_wait fresh) (seconds 6) fit.prompt (wait_short fresh) in
    let some : 1 ≤ (if is_nominating setup s p && not p.nominated then rto_of setup else consent_wait fresh) = either_some (is_nominating setup s p && not p.nominated) (rto_of setup) (consent_wait fresh) (rto_some setup) (wait_some (fresh % 2_001)) in
    let lasting : IsLasting gap o (asked setup s fresh p) = asked_lasting e gap w setup s fresh r w.asked_at p way recent v.ahead v.valid v.lasting in
    subst (IsValidWay gap s.clock (record { free_at = free; asked_at = o })) (sym same) (record {
      valid = v.valid;
      ahead = omega (arith, some, early);
      near = omega (arith, short);
      lasting = subst (IsLasting gap o) same lasting;
    })
  where
    wait_some : (n : ℕ) → 1 ≤ (4_000 + n) * 1_000_000
    wait_some n = omega arith

    rto_some : (setup : Setup) → 1 ≤ rto_of setup
    rto_some setup = omega arith

    either_some : (b : Bool) (x y : ℕ) → 1 ≤ x → 1 ≤ y → 1 ≤ (if b then x else y)
    either_some true x y one other = one
    either_some false x y one other = other

asked_pending : (e : End) (gap limit clock free : ℕ) (w : Watch) (r : Request) (o : Option ℕ) (p q : Pair) → is_way e r ≡ true → clock ≤ w.free_at + gap → IsPending gap limit w o p → IsPending gap limit (record { free_at = free; asked_at = asked_by e clock o (asks r) }) (asked_by e clock o (asks r)) q
asked_pending e gap limit clock free w r None p q way recent is =
    subst (λ (u : Option ℕ). IsPending gap limit (record { free_at = free; asked_at = u }) u q) (sym (cond-true (is_way e r) (Some clock) None way)) (let le = is.1 in omega (arith, recent, le))
asked_pending e gap limit clock free w r (Some x) p q way recent is = is

asked_follow : (e : End) (gap limit : ℕ) (w : Watch) (setup : Setup) (s : State) (fresh free : ℕ) (r : Request) (p : Pair) → IsFit setup → free ≤ s.clock → is_way e r ≡ true → s.clock ≤ w.free_at + gap → IsFollowedWay e gap limit s.clock w p
    → IsFollowedWay e gap limit s.clock (record { free_at = free; asked_at = asked_by e s.clock w.asked_at (asks r) }) (asked setup s fresh p)
asked_follow e gap limit w setup s fresh free r p fit early way recent f =
    let W : Watch = record { free_at = free; asked_at = asked_by e s.clock w.asked_at (asks r) } in
    elim f.state as (λ x. IsFollowedWay e gap limit s.clock W (asked setup s fresh p)) [
      | inl v ↦ record {
        there = at_left e.base e.to p (asked setup s fresh p) (asked_left setup s fresh p) ∙ f.there;
        unlost = ap (λ (q : Pair). is_lost q.state) (asked_is setup s fresh p v.valid) ∙ f.unlost;
        past = early;
        state = inl (asked_valid e gap w setup s fresh free r p fit early way recent v);
      }
      | inr q ↦ cond_both (is_lost p.state) _ _ (IsFollowedWay e gap limit s.clock W) (λ is. neither (IsFollowedWay e gap limit s.clock W _) (is_lost p.state) is f.unlost)
          (λ _. cond_both (is_succeeded p.state) _ _ (IsFollowedWay e gap limit s.clock W) (λ is. neither (IsFollowedWay e gap limit s.clock W _) (is_succeeded p.state) is q.0)
          (λ _. record { there = f.there; unlost = refl; past = early; state = inr (refl, asked_pending e gap limit s.clock free w r w.asked_at p (record p { state = InProgress; triggered = false; due = _; tries = _ }) way recent q.1) }))
    ]

-- no request on the way
other_pending : (e : End) (gap limit clock free : ℕ) (w : Watch) (u o : Option ℕ) (p : Pair) → (u ≡ o) → (o ≡ None → free + gap ≤ limit) → IsPending gap limit w o p → IsPending gap limit (record { free_at = free; asked_at = u }) u p
other_pending e gap limit clock free w u None p same early is = subst (λ (x : Option ℕ). IsPending gap limit (record { free_at = free; asked_at = x }) x p) (sym same) (is.0, early refl)
other_pending e gap limit clock free w u (Some x) p same early is = subst (λ (x : Option ℕ). IsPending gap limit (record { free_at = free; asked_at = x }) x p) (sym same) is

pub unasked_same : (e : End) (now : ℕ) (r : Request) (o : Option ℕ) → is_way e r ≡ false → asked_by e now o (asks r) ≡ o
unasked_same e now r None isnt = cond-false (is_way e r) (Some now) None isnt
unasked_same e now r (Some x) isnt = refl

pub nothing_same : (e : End) (now : ℕ) (o : Option ℕ) → asked_by e now o nothing ≡ o
nothing_same e now None = refl
nothing_same e now (Some x) = refl

pub due_high : (setup : Setup) (s : State) (p : Pair) → is_succeeded p.state ≡ true → nat_le p.due s.clock ≡ true → 2 ^ 64 * 3 ≤ score setup s p
due_high setup s p valid is_due = high_score setup s p (choice_high setup s p (valid_unlost p.state valid) (or_right (is_choice setup s p) (is_succeeded p.state && nat_le p.due s.clock) (and_from (is_succeeded p.state) (nat_le p.due s.clock) valid is_due)))

-- another pair is asked on, or none: the way isn't urgent, if the poll is free
passed_follow : (e : End) (gap limit : ℕ) (w : Watch) (setup : Setup) (s : State) (free : Bool) (u : Option ℕ) (p : Pair) → u ≡ w.asked_at → (free ≡ true → 2 ^ 64 * 3 ≤ score setup s p → ⊥) → IsFollowedWay e gap limit s.clock w p
    → IsFollowedWay e gap limit s.clock (record { free_at = if free then s.clock else w.free_at; asked_at = u }) p
passed_follow e gap limit w setup s free u p same never f =
    let at_free : ℕ = if free then s.clock else w.free_at in
    let W : Watch = record { free_at = at_free; asked_at = u } in
    elim f.state as (λ x. IsFollowedWay e gap limit s.clock W p) [
      | inl v ↦ record {
        there = f.there;
        unlost = f.unlost;
        past = free_by free s.clock w.free_at f.past;
        state = inl (record {
          valid = v.valid;
          ahead = early_by free s.clock w.free_at p.due v.ahead (λ is. elim (cases_Bool (nat_le p.due s.clock)) as (λ x. s.clock < p.due) [
            | inl is_due ↦ absurd (never is (due_high setup s p v.valid is_due))
            | inr isnt ↦ leb-false p.due s.clock isnt
          ]);
          near = v.near;
          lasting = subst (λ (o : Option ℕ). IsLasting gap o p) (sym same) v.lasting;
        });
      }
      | inr q ↦ record {
        there = f.there;
        unlost = f.unlost;
        past = free_by free s.clock w.free_at f.past;
        state = inr (
          q.0,
          other_pending e gap limit s.clock at_free w u w.asked_at p same
              (λ none. let pending : (p.triggered ≡ true) × (w.free_at + gap ≤ limit) = subst (λ (o : Option ℕ). IsPending gap limit w o p) none q.1 in
              late_by free s.clock w.free_at gap limit pending.1 (λ is. never is (high_score setup s p (triggered_high setup s p f.unlost pending.0)))) q.1,
        );
      }
    ]
  where
    late_by : (b : Bool) (clock free gap limit : ℕ) → free + gap ≤ limit → (b ≡ true → ⊥) → (if b then clock else free) + gap ≤ limit
    late_by true clock free gap limit le never = absurd (never refl)
    late_by false clock free gap limit le never = le

polls_on : (e : End) (gap limit : ℕ) (w : Watch) (setup : Setup) (fresh : ℕ) (s : State) (y : Pair) (o : Option Pair) → IsFit setup → s.clock ≤ w.free_at + gap → IsFollowedWay e gap limit s.clock w y → OneAmong (λ z. z ≡ y) (IsElsewhere e) s.pairs → IsTop (score setup s y) (score setup s) o
    → let t = option_map_or (asks_on setup fresh s) o (does_nothing s) in
    HasTriggered e gap limit (record { free_at = if Free setup e s o then s.clock else w.free_at; asked_at = asked_by e s.clock w.asked_at t.output }) t.state
polls_on e gap limit w setup fresh s y None fit recent f a top =
    let W : Watch = record { free_at = if Free setup e s None then s.clock else w.free_at; asked_at = asked_by e s.clock w.asked_at nothing } in
    one_weaken (λ z. z ≡ y) (IsFollowedWay e gap limit s.clock W) (IsElsewhere e)
    (λ z same. subst (IsFollowedWay e gap limit s.clock W) (sym same) (passed_follow e gap limit w setup s (Free setup e s None) (asked_by e s.clock w.asked_at nothing) y (nothing_same e s.clock w.asked_at) (λ _ high. let t = top in omega (arith, high, t)) f)) s.pairs a
polls_on e gap limit w setup fresh s y (Some x) fit recent f a top = elim (cases_Bool (is_at e.base e.to x)) as (λ b. HasTriggered e gap limit (record { free_at = if Free setup e s (Some x) then s.clock else w.free_at; asked_at = asked_by e s.clock w.asked_at (asks (request_on setup s fresh x)) }) (asks_on setup fresh s x).state) [
  | inl here ↦
      let r : Request = request_on setup s fresh x in
      let W : Watch = record { free_at = if Free setup e s (Some x) then s.clock else w.free_at; asked_at = asked_by e s.clock w.asked_at (asks r) } in
      one_changed (λ z. z ≡ y) (IsFollowedWay e gap limit s.clock W) (IsElsewhere e) (is_at x.base x.remote) (asked setup s fresh)
      (λ z same. same_place e x z here ∙ ap (is_at e.base e.to) same ∙ f.there) (λ z away. same_place e x z here ∙ away)
      (λ z same. subst (λ (q : Pair). IsFollowedWay e gap limit s.clock W (asked setup s fresh q)) (sym same)
      (asked_follow e gap limit w setup s fresh (if Free setup e s (Some x) then s.clock else w.free_at) r y fit (free_by (Free setup e s (Some x)) s.clock w.free_at f.past) here recent f)) s.pairs a
  | inr away ↦
      let r : Request = request_on setup s fresh x in
      let W : Watch = record { free_at = if Free setup e s (Some x) then s.clock else w.free_at; asked_at = asked_by e s.clock w.asked_at (asks r) } in
      let b : OneAmong (λ z. z ≡ y) (IsElsewhere e) (changed_first (is_at x.base x.remote) (asked setup s fresh) s.pairs) = one_elsewhere (λ z. z ≡ y) (IsElsewhere e) (is_at x.base x.remote) (asked setup s fresh)
      (λ z same. is_false (is_at x.base x.remote z) (elsewhere_from e x z away (ap (is_at e.base e.to) same ∙ f.there))) (λ z there. at_left e.base e.to z (asked setup s fresh z) (asked_left setup s fresh z) ∙ there) s.pairs a in
      one_weaken (λ z. z ≡ y) (IsFollowedWay e gap limit s.clock W) (IsElsewhere e)
      (λ z same. subst (IsFollowedWay e gap limit s.clock W) (sym same) (passed_follow e gap limit w setup s (Free setup e s (Some x)) (asked_by e s.clock w.asked_at (asks r)) y (unasked_same e s.clock r w.asked_at away)
      (λ free high. elim (or_cases (is_at e.base e.to x) (nat_lt (score setup s x) (2 ^ 64 * 3)) (and_parts (is_open s) (is_minor setup e s x) free).1) as (λ n. ⊥) [
        | inl there ↦ neither ⊥ (is_at e.base e.to x) there away
        | inr minor ↦ absurd (let low = ltb-true (score setup s x) (2 ^ 64 * 3) minor in omega (arith, high, low, top))
      ]) f)) (changed_first (is_at x.base x.remote) (asked setup s fresh) s.pairs) b
]

abbrev after_poll : Setup → End → Watch → State → Step → Watch
after_poll setup e w s t = record { free_at = if is_free setup e s then s.clock else w.free_at; asked_at = asked_by e s.clock w.asked_at t.output }

kept_poll : (setup : Setup) (e : End) (gap limit fresh : ℕ) (w : Watch) (s : State) → IsFit setup → s.clock ≤ w.free_at + gap → HasTriggered e gap limit w s → HasTriggered e gap limit (seen setup e fresh s polls w) (polled setup fresh s).state
kept_poll setup e gap limit fresh w s fit recent a =
    let x = one_exact (IsFollowedWay e gap limit s.clock w) (IsElsewhere e) s.pairs a in
    let R : Step → Type 0 = λ t. HasTriggered e gap limit (after_poll setup e w s t) t.state in
    let O : Step = option_map_or (asks_on setup fresh s) (most_urgent setup s) (does_nothing s) in
    elim (cases_Bool (is_open s)) as (λ b. R (polled setup fresh s)) [
      | inl shut_not ↦ subst R (sym (cond-true (is_open s) O (does_nothing s) shut_not)) (polls_on e gap limit w setup fresh s x.0 (most_urgent setup s) fit recent x.1 x.2 (top_best (IsElsewhere e) (score setup s) x.0 s.pairs x.2))
      | inr shut ↦ subst R (sym (cond-false (is_open s) O (does_nothing s) shut))
          (one_weaken (IsFollowedWay e gap limit s.clock w) (IsFollowedWay e gap limit s.clock (after_poll setup e w s (does_nothing s))) (IsElsewhere e)
          (λ z f. passed_follow e gap limit w setup s (is_free setup e s) (asked_by e s.clock w.asked_at nothing) z (nothing_same e s.clock w.asked_at)
          (λ free _. neither ⊥ (is_open s) (and_parts (is_open s) (option_map_or (is_minor setup e s) (most_urgent setup s) true) free).0 shut) f) s.pairs a)
    ]

-- ---- A check

same_state : (e : End) (gap limit clock : ℕ) (w : Watch) (p q : Pair) → is_at e.base e.to q ≡ is_at e.base e.to p → q.state ≡ p.state → q.due ≡ p.due → q.expires_at ≡ p.expires_at → q.triggered ≡ p.triggered → IsFollowedWay e gap limit clock w p → IsFollowedWay e gap limit clock w q
same_state e gap limit clock w p q place phase due until triggered f = record {
  there = place ∙ f.there;
  unlost = ap is_lost phase ∙ f.unlost;
  past = f.past;
  state = elim f.state as (λ x. IsValidWay gap clock w q ⊎ ((is_succeeded q.state ≡ false) × IsPending gap limit w w.asked_at q)) [
    | inl v ↦ inl (record { valid = ap is_succeeded phase ∙ v.valid; ahead = subst (λ (n : ℕ). w.free_at < n) (sym due) v.ahead; near = subst (λ (n : ℕ). n ≤ clock + seconds 6) (sym due) v.near; lasting = lasts_same gap w.asked_at p q due until v.lasting })
    | inr x ↦ inr (ap is_succeeded phase ∙ x.0, pending_same gap limit w w.asked_at p q triggered x.1)
  ];
}

triggers_follow : (e : End) (gap limit clock : ℕ) (w : Watch) (p : Pair) → IsFollowedWay e gap limit clock w p → IsFollowedWay e gap limit clock w (triggers p)
triggers_follow e gap limit clock w p f = cond_both (is_succeeded p.state || is_lost p.state) _ _ (IsFollowedWay e gap limit clock w) (λ _. f)
    (λ isnt. elim f.state as (λ x. IsFollowedWay e gap limit clock w (record p { state = Waiting; triggered = true; tries = 0 })) [
      | inl v ↦ neither _ (is_succeeded p.state) v.valid (or_parts (is_succeeded p.state) (is_lost p.state) isnt).0
      | inr q ↦ record { there = f.there; unlost = refl; past = f.past; state = inr (refl, again gap limit w w.asked_at p q.1) }
    ])
  where
    again : (gap limit : ℕ) (w : Watch) (o : Option ℕ) (p : Pair) → IsPending gap limit w o p → IsPending gap limit w o (record p { state = Waiting; triggered = true; tries = 0 })
    again gap limit w None p is = (refl, is.1)
    again gap limit w (Some x) p is = is

heard_follow : (e : End) (role : Role) (gap limit clock : ℕ) (w : Watch) (c : Check) (p : Pair) → IsFollowedWay e gap limit clock w p → IsFollowedWay e gap limit clock w (heard role c p)
heard_follow e role gap limit clock w c p f =
    cond_both (c.nominates && (not (is_controlling role) && not (is_lost p.state))) (record p { heard = true; nominated = true }) (record p { heard = true }) (λ (q : Pair). IsFollowedWay e gap limit clock w (triggers q))
    (λ _. triggers_follow e gap limit clock w (record p { heard = true; nominated = true }) (same_state e gap limit clock w p (record p { heard = true; nominated = true }) refl refl refl refl refl f))
    (λ _. triggers_follow e gap limit clock w (record p { heard = true }) (same_state e gap limit clock w p (record p { heard = true }) refl refl refl refl refl f))

check_by : (setup : Setup) (e : End) (gap limit : ℕ) (w : Watch) (c : Check) (s : State) (o : Option Base) → c.role ≡ other_role s.role → HasTriggered e gap limit w s → HasTriggered e gap limit w (option_map_or (checked setup c s) o (does_nothing s)).state
check_by setup e gap limit w c s None role a = a
check_by setup e gap limit w c s (Some b) role a =
    let P : Pair → Type 0 = IsFollowedWay e gap limit s.clock w in
    let decision : role_decision s.role s.tiebreaker c.role c.tiebreaker ≡ keep = ap (λ (r : Role). role_decision s.role s.tiebreaker r c.tiebreaker) role ∙ opposite_keeps s.role s.tiebreaker c.tiebreaker in
    subst (λ (d : RoleDecision). HasTriggered e gap limit w (decides setup b c s d).state) (sym decision)
    (one_touched P (IsElsewhere e) (is_at c.base c.from) (heard s.role c) (λ p f. heard_follow e s.role gap limit s.clock w c p f) (λ p away. at_left e.base e.to p (heard s.role c p) (heard_left s.role c p) ∙ away)
    (with_pair setup.most_pairs (pair_of b (discovered b c)) s.pairs) (with_elsewhere P e setup.most_pairs (pair_of b (discovered b c)) s.pairs (λ z f. f.there) a))

-- ---- A response

succeeds_follow : (e : End) (role : Role) (gap limit clock : ℕ) (w : Watch) (r : Request) (p : Pair) → IsFollowedWay e gap limit clock w p → IsFollowedWay e gap limit clock (record w { asked_at = None }) (succeeds role clock r p)
succeeds_follow e role gap limit clock w r p f =
    let made : Pair = succeeded_valid role clock r p in
    subst (IsFollowedWay e gap limit clock (record w { asked_at = None })) (sym (cond-false (is_lost p.state) p made f.unlost)) (record {
      there = f.there;
      unlost = refl;
      past = f.past;
      state = inl (elim f.state as (λ x. IsValidWay gap clock (record w { asked_at = None }) made) [
        | inl v ↦
            let due_is : made.due ≡ p.due = cond-true (is_succeeded p.state) p.due (clock + seconds 4) v.valid in
            let near = v.near in
            record { valid = refl; ahead = subst (λ (n : ℕ). w.free_at < n) (sym due_is) v.ahead; near = subst (λ (n : ℕ). n ≤ clock + seconds 6) (sym due_is) near; lasting = subst (λ (n : ℕ). n + seconds 24 ≤ clock + seconds 30) (sym due_is) (omega (arith, near)) }
        | inr q ↦
            let due_is : made.due ≡ clock + seconds 4 = cond-false (is_succeeded p.state) p.due (clock + seconds 4) q.0 in
            let past = f.past in
            record { valid = refl; ahead = subst (λ (n : ℕ). w.free_at < n) (sym due_is) (omega (arith, past)); near = subst (λ (n : ℕ). n ≤ clock + seconds 6) (sym due_is) (omega arith); lasting = subst (λ (n : ℕ). n + seconds 24 ≤ clock + seconds 30) (sym due_is) (omega arith) }
      ]);
    })

thaws_follow : (e : End) (gap limit clock : ℕ) (w : Watch) (o : Option Pair) (p : Pair) → IsFollowedWay e gap limit clock w p → IsFollowedWay e gap limit clock w (thaws o p)
thaws_follow e gap limit clock w None p f = f
thaws_follow e gap limit clock w (Some q) p f = cond_both (is_kin q p && is_frozen p.state) (record p { state = Waiting }) p (IsFollowedWay e gap limit clock w)
    (λ both. elim f.state as (λ x. IsFollowedWay e gap limit clock w (record p { state = Waiting })) [
      | inl v ↦ neither _ (is_frozen p.state) (and_parts (is_kin q p) (is_frozen p.state) both).1 (valid_thawed p.state v.valid)
      | inr x ↦ record { there = f.there; unlost = refl; past = f.past; state = inr (refl, pending_same gap limit w w.asked_at p (record p { state = Waiting }) refl x.1) }
    ]) (λ _. f)

fails_follow : (e : End) (gap limit clock : ℕ) (w : Watch) (p : Pair) → IsFollowedWay e gap limit clock w p → IsFollowedWay e gap limit clock w (fails p)
fails_follow e gap limit clock w p f = cond_both (is_in_progress p.state) (record p { state = Failed }) p (IsFollowedWay e gap limit clock w)
    (λ is. elim f.state as (λ x. IsFollowedWay e gap limit clock w (record p { state = Failed })) [
      | inl v ↦ neither _ (is_in_progress p.state) is (valid_done p.state v.valid)
      | inr x ↦ record { there = f.there; unlost = refl; past = f.past; state = inr (refl, pending_same gap limit w w.asked_at p (record p { state = Failed }) refl x.1) }
    ]) (λ _. f)

-- an answer that isn't the way's changes another pair alone
other_answer : (e : End) (gap limit fresh : ℕ) (w : Watch) (s : State) (r : Request) → is_way e r ≡ false → HasTriggered e gap limit w s → HasTriggered e gap limit w (answered fresh r Accepted s)
other_answer e gap limit fresh w s r isnt a =
    let P : Pair → Type 0 = IsFollowedWay e gap limit s.clock w in
    let after : List Pair = changed_first (is_at r.base r.to) (succeeds s.role s.clock r) s.pairs in
    let o : Option Pair = find (is_at r.base r.to) after in
    one_map P P (IsElsewhere e) (IsElsewhere e) (thaws o) (λ p f. thaws_follow e gap limit s.clock w o p f) (λ p away. at_left e.base e.to p (thaws o p) (thaws_left o p) ∙ away) after
    (one_elsewhere P (IsElsewhere e) (is_at r.base r.to) (succeeds s.role s.clock r) (λ p f. is_false (is_at r.base r.to p) (λ same. neither ⊥ (is_way e r) (way_by e r p f.there same) isnt))
    (λ p away. at_left e.base e.to p (succeeds s.role s.clock r p) (succeeds_left s.role s.clock r p) ∙ away) s.pairs a)

way_answer : (e : End) (gap limit fresh : ℕ) (w : Watch) (s : State) (r : Request) → is_way e r ≡ true → HasTriggered e gap limit w s → HasTriggered e gap limit (record w { asked_at = None }) (answered fresh r Accepted s)
way_answer e gap limit fresh w s r is a =
    let both = and_parts (e.base == r.base) (is_endpoint e.to r.to) is in
    let P : Pair → Type 0 = IsFollowedWay e gap limit s.clock w in
    let R : Pair → Type 0 = IsFollowedWay e gap limit s.clock (record w { asked_at = None }) in
    let at_r : (p : Pair) → is_at r.base r.to p ≡ is_at e.base e.to p = λ p. ap (λ (n : ℕ). is_at n r.to p) (sym (eqb-true e.base r.base both.0)) ∙ ap (λ (x : Endpoint). is_at e.base x p) (sym (endpoint_same e.to r.to both.1)) in
    let after : List Pair = changed_first (is_at r.base r.to) (succeeds s.role s.clock r) s.pairs in
    let o : Option Pair = find (is_at r.base r.to) after in
    one_map R R (IsElsewhere e) (IsElsewhere e) (thaws o) (λ p f. thaws_follow e gap limit s.clock (record w { asked_at = None }) o p f) (λ p away. at_left e.base e.to p (thaws o p) (thaws_left o p) ∙ away) after
    (one_changed P R (IsElsewhere e) (is_at r.base r.to) (succeeds s.role s.clock r) (λ p f. at_r p ∙ f.there) (λ p away. at_r p ∙ away) (λ p f. succeeds_follow e s.role gap limit s.clock w r p f) s.pairs a)

failed_follow : (e : End) (gap limit : ℕ) (w : Watch) (base : ℕ) (to : Endpoint) (s : State) → HasTriggered e gap limit w s → HasTriggered e gap limit w (changed fails base to s)
failed_follow e gap limit w base to s a = one_touched (IsFollowedWay e gap limit s.clock w) (IsElsewhere e) (is_at base to) fails (λ p f. fails_follow e gap limit s.clock w p f) (λ p away. at_left e.base e.to p (fails p) (fails_left p) ∙ away) s.pairs a

response_by : (e : End) (gap limit fresh base : ℕ) (from : Endpoint) (answer : Answer) (w : Watch) (s : State) (o : Option Request) → (answer ≡ Refused 487 → ⊥) → HasTriggered e gap limit w s
    → HasTriggered e gap limit (option_map_or (λ r. if is_way_answer e base from answer r then record w { asked_at = None } else w) o w) (option_map_or (responded fresh base from answer s) o (does_nothing s)).state
response_by e gap limit fresh base from answer w s None usual a = a
response_by e gap limit fresh base from Accepted w s (Some r) usual a =
    let t : State = without_request r.id s in
    cond_both (is_symmetric base from r) (answered fresh r Accepted t) (changed fails r.base r.to t) (λ x. HasTriggered e gap limit (if is_way_answer e base from Accepted r then record w { asked_at = None } else w) x)
    (λ symmetric. cond_both (is_way e r && is_symmetric base from r) (record w { asked_at = None }) w (λ u. HasTriggered e gap limit u (answered fresh r Accepted t))
    (λ is. way_answer e gap limit fresh w t r (and_parts (is_way e r) (is_symmetric base from r) is).0 a)
    (λ isnt. other_answer e gap limit fresh w t r (is_false (is_way e r) (λ way. neither ⊥ (is_way e r && is_symmetric base from r) (and_from (is_way e r) (is_symmetric base from r) way symmetric) isnt)) a))
    (λ elsewhere. subst (λ (u : Watch). HasTriggered e gap limit u (changed fails r.base r.to t)) (sym (cond-false (is_way e r && is_symmetric base from r) (record w { asked_at = None }) w (and_right (is_way e r) (is_symmetric base from r) elsewhere)))
    (failed_follow e gap limit w r.base r.to t a))
response_by e gap limit fresh base from (Refused code) w s (Some r) usual a =
    let t : State = without_request r.id s in
    cond_both (is_symmetric base from r) (answered fresh r (Refused code) t) (changed fails r.base r.to t) (λ x. HasTriggered e gap limit w x)
    (λ _. cond_both (code == 487) _ (changed fails r.base r.to t) (HasTriggered e gap limit w) (λ is. absurd (usual (ap Refused (eqb-true code 487 is)))) (λ _. failed_follow e gap limit w r.base r.to t a))
    (λ _. failed_follow e gap limit w r.base r.to t a)

-- ---- Events

kept_event : (setup : Setup) (e : End) (gap limit fresh : ℕ) (w : Watch) (s : State) (event : Event) → IsFit setup → s.clock ≤ w.free_at + gap → IsUsual s event → HasTriggered e gap limit w s → HasTriggered e gap limit (seen setup e fresh s event w) (happens setup fresh s event).state
kept_event setup e gap limit fresh w s (gathers b) fit recent usual a = cond_both (has_room setup s.bases && not (list_any (is_base b.number) s.bases)) _ _ (HasTriggered e gap limit w)
    (λ _. with_all_elsewhere (IsFollowedWay e gap limit s.clock w) e setup.most_pairs (map {B = Pair} (pair_of b) (filter (fits b) s.remotes)) s.pairs (λ z f. f.there) a) (λ _. a)
kept_event setup e gap limit fresh w s (learns r) fit recent usual a = cond_both (has_room setup s.remotes && not (list_any (is_remote r.component r.address) s.remotes)) _ _ (HasTriggered e gap limit w)
    (λ _. with_all_elsewhere (IsFollowedWay e gap limit s.clock w) e setup.most_pairs (map {B = Pair} (λ b. pair_of b r) (filter (λ b. fits b r) s.bases)) s.pairs (λ z f. f.there) a) (λ _. a)
kept_event setup e gap limit fresh w s meets fit recent usual a = a
kept_event setup e gap limit fresh w s ends fit recent usual a = a
kept_event setup e gap limit fresh w s (checks c) fit recent usual a = check_by setup e gap limit w c s (find (is_base c.base) s.bases) usual a
kept_event setup e gap limit fresh w s (responds base from id answer) fit recent usual a = response_by e gap limit fresh base from answer w s (find (is_request id) s.requests) usual a
kept_event setup e gap limit fresh w s (strays base from id size code) fit recent usual a = a
kept_event setup e gap limit fresh w s (arrives base from bytes) fit recent usual a = a
kept_event setup e gap limit fresh w s (sends component bytes) fit recent usual a = a
kept_event setup e gap limit fresh w s polls fit recent usual a = kept_poll setup e gap limit fresh w s fit recent a

stays_followed : (setup : Setup) (e : End) (gap delay limit : ℕ) (s : State) (w : Watch) (events : List Timed) → IsFit setup → gap + delay ≤ seconds 20 → HasTriggered e gap limit w s → IsCourse setup e gap delay s w events
    → HasTriggered e gap limit (watched setup e s w events) (disturbed setup s events)
stays_followed setup e gap delay limit s w [] fit short a course = a
stays_followed setup e gap delay limit s w (t ∷ earlier) fit short a course =
    let before : State = disturbed setup s earlier in
    let u : Watch = watched setup e s w earlier in
    let same : at setup t.now before ≡ moved setup t.now before = at_is setup t.now before course.1 in
    subst (λ (x : State). HasTriggered e gap limit (seen setup e t.fresh x t.event u) (happens setup t.fresh x t.event).state) (sym same)
    (kept_event setup e gap limit t.fresh u (moved setup t.now before) t.event fit course.2.0 (subst (λ (x : State). IsUsual x t.event) same course.3)
    (has_moved setup e gap delay limit t.now u before short course.1 course.2 (stays_followed setup e gap delay limit s w earlier fit short a course.0)))

-- once the time is over, it is valid
over_by : (gap delay limit now : ℕ) (w : Watch) (o : Option ℕ) (p : Pair) → IsPending gap limit w o p → now ≤ w.free_at + gap → IsAnsweredBy delay now o → limit + delay < now → ⊥
over_by gap delay limit now w None p is recent timely late = let le = is.1 in omega (arith, le, recent, late)
over_by gap delay limit now w (Some x) p is recent timely late = omega (arith, is, timely, late)

pub check_followed : (setup : Setup) (e : End) (gap delay limit : ℕ) (s : State) (w : Watch) (events : List Timed) (now : ℕ) → IsFit setup → gap + delay ≤ seconds 20 → HasTriggered e gap limit w s → IsCourse setup e gap delay s w events
    → let after = disturbed setup s events in after.clock ≤ now → IsTimely gap delay now (watched setup e s w events) → limit + delay < now → OneAmong (IsConsentedWay e now) (IsElsewhere e) (at setup now after).pairs
check_followed setup e gap delay limit s w events now fit short a course le timely late =
    let after : State = disturbed setup s events in
    let u : Watch = watched setup e s w events in
    let b : HasTriggered e gap limit u (moved setup now after) = has_moved setup e gap delay limit now u after short le timely (stays_followed setup e gap delay limit s w events fit short a course) in
    subst (λ (x : State). OneAmong (IsConsentedWay e now) (IsElsewhere e) x.pairs) (sym (at_is setup now after le))
    (one_weaken (IsFollowedWay e gap limit now u) (IsConsentedWay e now) (IsElsewhere e) (λ p f. elim f.state as (λ x. IsConsentedWay e now p) [
      | inl v ↦ record { there = f.there; valid = v.valid; consented = valid_alive gap delay now now u p short timely v }
      | inr q ↦ absurd (over_by gap delay limit now u u.asked_at p q.1 timely.0 timely.1 late)
    ]) (moved setup now after).pairs b)
