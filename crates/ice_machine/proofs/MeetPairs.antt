-- What becomes of the pair of the way, and of the useless ones; and how urgent each is.
use Rattle.std.proofs.Common.{◌≡◌, ℕ, ◌+◌, ◌-◌, ◌*◌, ◌^◌, ◌%◌, ◌<◌, ◌≤◌, Bool, true, false, not, ◌||◌, ◌&&◌, Option, None, Some, refl, sym, ap, subst, ◌∙◌, arith, eq-eqb}
use Rattle.std.specs.Prelude.{◌==◌, nat_lt, nat_le, if◌then◌else◌, min}
use Rattle.std.proofs.lemmas.Bool.{cond_both, cond-true, cond-false, and_parts, and_from, and_left, and_right, or_left, or_right, lt-leb, le-leb}
use Rattle.stun_endpoints.specs.declared.endpoints.Endpoint.{Endpoint}
use Rattle.ice_machine.specs.Roles.{Role, is_controlling}
use Rattle.ice_machine.specs.Agents.{seconds, PairState, Frozen, Waiting, InProgress, Succeeded, Failed, Lost, Pair, Request, Setup, State, is_at, is_succeeded, is_in_progress, is_frozen, is_lost}
use Rattle.ice_machine.specs.Events.{Check}
use Rattle.ice_machine.specs.Checks.{is_kin, is_fresh, is_long_valid, is_choice, is_nominating, urgency, score, rto_of, consent_wait, asked, precedence}
use Rattle.ice_machine.specs.Steps.{is_unanswered, is_over, settled, unnominated, triggers, nominated_by, heard, succeeds, thaws, retried}
use Rattle.ice_machine.specs.Networks.{Place}
use Rattle.ice_machine.specs.Meetings.{End, IsUseless, IsUntold, IsFit}
use Rattle.ice_machine.proofs.PlacesLemmas.{neither}

-- ---- Useless pairs

pub useless_settled : (e : End) (net : ℕ → Endpoint → Option Place) (setup : Setup) (now : ℕ) (p : Pair) → IsUseless e net p → IsUseless e net (settled setup now p)
useless_settled e net setup now p u = cond_both (is_unanswered setup now p) _ _ (IsUseless e net)
    (λ _. record { elsewhere = u.elsewhere; unanswered = u.unanswered; apart = u.apart; invalid = refl; untriggered = u.untriggered; unchosen = u.unchosen; unnominated = u.unnominated })
    (λ _. cond_both (is_over now p) _ _ (IsUseless e net)
    (λ _. record { elsewhere = u.elsewhere; unanswered = u.unanswered; apart = u.apart; invalid = refl; untriggered = refl; unchosen = refl; unnominated = u.unnominated })
    (λ _. u))

pub useless_asked : (e : End) (net : ℕ → Endpoint → Option Place) (setup : Setup) (s : State) (fresh : ℕ) (p : Pair) → IsUseless e net p → IsUseless e net (asked setup s fresh p)
useless_asked e net setup s fresh p u = cond_both (is_lost p.state) _ _ (IsUseless e net) (λ _. u)
    (λ _. cond_both (is_succeeded p.state) _ _ (IsUseless e net) (λ yes. neither (IsUseless e net _) (is_succeeded p.state) yes u.invalid)
    (λ _. record { elsewhere = u.elsewhere; unanswered = u.unanswered; apart = u.apart; invalid = refl; untriggered = refl; unchosen = u.unchosen; unnominated = u.unnominated }))

pub useless_thawed : (e : End) (net : ℕ → Endpoint → Option Place) (o : Option Pair) (p : Pair) → IsUseless e net p → IsUseless e net (thaws o p)
useless_thawed e net None p u = u
useless_thawed e net (Some q) p u = cond_both (is_kin q p && is_frozen p.state) _ _ (IsUseless e net)
    (λ _. record { elsewhere = u.elsewhere; unanswered = u.unanswered; apart = u.apart; invalid = refl; untriggered = u.untriggered; unchosen = u.unchosen; unnominated = u.unnominated })
    (λ _. u)

pub useless_unnominated : (e : End) (net : ℕ → Endpoint → Option Place) (p : Pair) → IsUseless e net p → IsUseless e net (unnominated p)
useless_unnominated e net p u = record { elsewhere = u.elsewhere; unanswered = u.unanswered; apart = u.apart; invalid = u.invalid; untriggered = u.untriggered; unchosen = refl; unnominated = refl }

-- ---- The pair of the way, on which nothing has come back

pub untold_settled : (e : End) (setup : Setup) (now : ℕ) (p : Pair) → IsUntold e p → IsUntold e (settled setup now p)
untold_settled e setup now p u = cond_both (is_unanswered setup now p) _ _ (IsUntold e)
    (λ _. record { there = u.there; component = u.component; invalid = refl; unlost = refl; unchosen = u.unchosen; unnominated = u.unnominated })
    (λ _. cond_both (is_over now p) _ _ (IsUntold e) (λ over. neither (IsUntold e _) (is_succeeded p.state) (and_parts (is_succeeded p.state) (nat_le p.expires_at now) over).0 u.invalid) (λ _. u))

pub untold_asked : (e : End) (setup : Setup) (s : State) (fresh : ℕ) (p : Pair) → IsUntold e p → IsUntold e (asked setup s fresh p)
untold_asked e setup s fresh p u = cond_both (is_lost p.state) _ _ (IsUntold e) (λ _. u)
    (λ _. cond_both (is_succeeded p.state) _ _ (IsUntold e) (λ yes. neither (IsUntold e _) (is_succeeded p.state) yes u.invalid)
    (λ _. record { there = u.there; component = u.component; invalid = refl; unlost = refl; unchosen = u.unchosen; unnominated = u.unnominated }))

pub untold_unnominated : (e : End) (p : Pair) → IsUntold e p → IsUntold e (unnominated p)
untold_unnominated e p u = record { there = u.there; component = u.component; invalid = u.invalid; unlost = u.unlost; unchosen = refl; unnominated = refl }

-- a request on it doesn't nominate
pub untold_plain : (e : End) (setup : Setup) (s : State) (p : Pair) → IsUntold e p → is_nominating setup s p ≡ false
untold_plain e setup s p u = and_right (is_controlling s.role) (is_succeeded p.state && (p.chosen || is_choice setup s p)) (and_left (is_succeeded p.state) (p.chosen || is_choice setup s p) u.invalid)

-- a request on it is triggered
abbrev pub IsTriggered : End → Pair → Type 0
IsTriggered e p = IsUntold e p × (p.triggered ≡ true)

pub triggered_settled : (e : End) (setup : Setup) (now : ℕ) (p : Pair) → IsTriggered e p → IsTriggered e (settled setup now p)
triggered_settled e setup now p u = (
  untold_settled e setup now p u.0,
  cond_both (is_unanswered setup now p) _ _ (λ (q : Pair). q.triggered ≡ true) (λ _. u.1)
      (λ _. cond_both (is_over now p) _ _ (λ (q : Pair). q.triggered ≡ true) (λ over. neither (false ≡ true) (is_succeeded p.state) (and_parts (is_succeeded p.state) (nat_le p.expires_at now) over).0 u.0.invalid) (λ _. u.1)),
)

or_both : (a b : Bool) → a ≡ false → b ≡ false → (a || b) ≡ false
or_both true b one other = one
or_both false b one other = other

triggers_untold : (e : End) (p : Pair) → IsUntold e p → IsTriggered e (triggers p)
triggers_untold e p u = subst (IsTriggered e) (sym (cond-false (is_succeeded p.state || is_lost p.state) p (record p { state = Waiting; triggered = true; tries = 0 }) (or_both (is_succeeded p.state) (is_lost p.state) u.invalid u.unlost)))
    (record { there = u.there; component = u.component; invalid = refl; unlost = refl; unchosen = u.unchosen; unnominated = u.unnominated }, refl)

pub untold_heard : (e : End) (role : Role) (c : Check) (p : Pair) → c.nominates ≡ false → IsUntold e p → IsTriggered e (heard role c p)
untold_heard e role c p plain u = triggers_untold e (nominated_by role c p)
    (subst (IsUntold e) (sym (cond-false (c.nominates && (not (is_controlling role) && not (is_lost p.state))) (record p { heard = true; nominated = true }) (record p { heard = true }) (and_left c.nominates (not (is_controlling role) && not (is_lost p.state)) plain)))
    (record { there = u.there; component = u.component; invalid = u.invalid; unlost = u.unlost; unchosen = u.unchosen; unnominated = u.unnominated }))

pub untold_retried : (e : End) (p : Pair) → IsUntold e p → IsTriggered e (retried p)
untold_retried e p u = cond_both (is_lost p.state) _ _ (IsTriggered e) (λ yes. neither (IsTriggered e _) (is_lost p.state) yes u.unlost)
    (λ _. cond_both (is_succeeded p.state) _ _ (IsTriggered e) (λ yes. neither (IsTriggered e _) (is_succeeded p.state) yes u.invalid) (λ _. triggers_untold e p u))

-- ---- The pair of the way, valid

-- it has succeeded, at a moment or before; it is consented beyond another; and the next request on it
-- is due long before the consent ends
pub record IsTold (e : End) (since now : ℕ) (p : Pair) : Type 0 where
  pub there : is_at e.base e.to p ≡ true
  pub component : p.component ≡ e.component
  pub valid : is_succeeded p.state ≡ true
  pub since_by : p.succeeded_at ≤ since
  pub lasting : p.due + seconds 24 ≤ p.expires_at
  pub live : now < p.expires_at

pub valid_unlost : (phase : PairState) → is_succeeded phase ≡ true → is_lost phase ≡ false
valid_unlost Frozen is = absurd cc
valid_unlost Waiting is = absurd cc
valid_unlost InProgress is = absurd cc
valid_unlost Succeeded is = refl
valid_unlost Failed is = absurd cc
valid_unlost Lost is = absurd cc

pub valid_done : (phase : PairState) → is_succeeded phase ≡ true → is_in_progress phase ≡ false
valid_done Frozen is = absurd cc
valid_done Waiting is = absurd cc
valid_done InProgress is = absurd cc
valid_done Succeeded is = refl
valid_done Failed is = absurd cc
valid_done Lost is = absurd cc

pub valid_thawed : (phase : PairState) → is_succeeded phase ≡ true → is_frozen phase ≡ false
valid_thawed Frozen is = absurd cc
valid_thawed Waiting is = absurd cc
valid_thawed InProgress is = absurd cc
valid_thawed Succeeded is = refl
valid_thawed Failed is = absurd cc
valid_thawed Lost is = absurd cc

-- time leaves it as it is
pub live_settled : (setup : Setup) (now : ℕ) (p : Pair) → is_succeeded p.state ≡ true → now < p.expires_at → settled setup now p ≡ p
live_settled setup now p valid live =
    cond-false (is_unanswered setup now p) _ _ (and_left (is_in_progress p.state) (nat_le setup.most_tries p.tries && nat_le p.due now) (valid_done p.state valid))
    ∙ cond-false (is_over now p) _ _ (and_right (is_succeeded p.state) (nat_le p.expires_at now) (lt-leb p.expires_at now live))

pub told_settled : (e : End) (since until : ℕ) (setup : Setup) (now : ℕ) (p : Pair) → now ≤ until → IsTold e since until p → settled setup now p ≡ p
told_settled e since until setup now p le t = live_settled setup now p t.valid (let l = t.live in omega (arith, l, le))

pub told_thawed : (e : End) (since until : ℕ) (o : Option Pair) (p : Pair) → IsTold e since until p → thaws o p ≡ p
told_thawed e since until None p t = refl
told_thawed e since until (Some q) p t = cond-false (is_kin q p && is_frozen p.state) (record p { state = Waiting }) p (and_right (is_kin q p) (is_frozen p.state) (valid_thawed p.state t.valid))

-- an answer makes it valid for 30 seconds
pub untold_succeeds : (e : End) (role : Role) (now : ℕ) (r : Request) (p : Pair) → IsUntold e p → (until : ℕ) → until ≤ now + seconds 20 → r.nominates ≡ false
    → IsTold e now until (succeeds role now r p) × ((succeeds role now r p).chosen ≡ false) × ((succeeds role now r p).nominated ≡ false)
untold_succeeds e role now r p u until le plain =
    subst (λ (q : Pair). IsTold e now until q × (q.chosen ≡ false) × (q.nominated ≡ false)) (sym (cond-false (is_lost p.state) p _ u.unlost)) (
      record {
        there = u.there;
        component = u.component;
        valid = refl;
        since_by = subst (λ (n : ℕ). n ≤ now) (sym (cond-false (is_succeeded p.state) p.succeeded_at now u.invalid)) (omega arith);
        lasting = subst (λ (n : ℕ). n + seconds 24 ≤ now + seconds 30) (sym (cond-false (is_succeeded p.state) p.due (now + seconds 4) u.invalid)) (omega arith);
        live = omega (arith, le);
      },
      u.unchosen,
      or_both p.nominated (p.chosen && (r.nominates && is_controlling role)) u.unnominated (and_left p.chosen (r.nominates && is_controlling role) u.unchosen),
    )

-- a request on it, and the answer at the same moment
abbrev asked_valid : Setup → State → ℕ → Pair → Pair
asked_valid setup s fresh p = record p {
  triggered = false;
  chosen = p.chosen || is_nominating setup s p;
  due = s.clock + (if is_nominating setup s p && not p.nominated then rto_of setup else consent_wait fresh);
}

pub asked_is : (setup : Setup) (s : State) (fresh : ℕ) (p : Pair) → is_succeeded p.state ≡ true → asked setup s fresh p ≡ asked_valid setup s fresh p
asked_is setup s fresh p valid = cond-false (is_lost p.state) _ _ (valid_unlost p.state valid) ∙ cond-true (is_succeeded p.state) (asked_valid setup s fresh p) _ valid

abbrev pub succeeded_valid : Role → (now : ℕ) → Request → Pair → Pair
succeeded_valid role now r p = record p {
  state = Succeeded;
  triggered = false;
  nominated = p.nominated || (p.chosen && (r.nominates && is_controlling role));
  expires_at = now + seconds 30;
  succeeded_at = if is_succeeded p.state then p.succeeded_at else now;
  due = if is_succeeded p.state then p.due else now + seconds 4;
  tries = 0;
}

pub wait_short : (fresh : ℕ) → consent_wait fresh ≤ seconds 6
wait_short fresh = wait_by (fresh % 2_001) (mod_less fresh)
  where
    mod_less : (n : ℕ) → n % 2_001 < 2_001
    mod_less n = omega arith

    wait_by : (n : ℕ) → n < 2_001 → (4_000 + n) * 1_000_000 ≤ 6 * 1_000_000_000
    wait_by n lt = omega (arith, lt)

pub either_short : (b : Bool) (x y n : ℕ) → x ≤ n → y ≤ n → (if b then x else y) ≤ n
either_short true x y n one other = one
either_short false x y n one other = other

-- what a request and its answer make of a valid pair
abbrev pub renewed : Setup → State → ℕ → Role → ℕ → Request → Pair → Pair
renewed setup s fresh role now r p = succeeds role now r (settled setup now (asked setup s fresh p))

renewed_is : (e : End) (since until : ℕ) (setup : Setup) (s : State) (fresh : ℕ) (role : Role) (now : ℕ) (r : Request) (p : Pair) → now ≤ until → IsTold e since until p
    → renewed setup s fresh role now r p ≡ succeeded_valid role now r (asked_valid setup s fresh p)
renewed_is e since until setup s fresh role now r p le t =
    ap (λ (q : Pair). succeeds role now r (settled setup now q)) (asked_is setup s fresh p t.valid)
    ∙ ap (succeeds role now r) (live_settled setup now (asked_valid setup s fresh p) t.valid (let l = t.live in omega (arith, l, le)))
    ∙ cond-false (is_lost p.state) (asked_valid setup s fresh p) (succeeded_valid role now r (asked_valid setup s fresh p)) (valid_unlost p.state t.valid)

pub told_renewed : (e : End) (since until : ℕ) (setup : Setup) (s : State) (fresh : ℕ) (role : Role) (now : ℕ) (r : Request) (p : Pair) → IsFit setup → s.clock ≡ now → now ≤ until → (next : ℕ) → next ≤ now + seconds 20
    → IsTold e since until p → IsTold e since next (renewed setup s fresh role now r p)
told_renewed e since until setup s fresh role now r p fit clock le next soon t =
    let short : (if is_nominating setup s p && not p.nominated then rto_of setup else consent_wait fresh) ≤ seconds 6 = either_short (is_nominating setup s p && not p.nominated) (rto_of setup) (consent_wait fresh) (seconds 6) fit.prompt (wait_short fresh) in
    subst (IsTold e since next) (sym (renewed_is e since until setup s fresh role now r p le t)) (record {
      there = t.there;
      component = t.component;
      valid = refl;
      since_by = subst (λ (n : ℕ). n ≤ since) (sym (cond-true (is_succeeded p.state) p.succeeded_at now t.valid)) t.since_by;
      lasting = subst (λ (n : ℕ). n + seconds 24 ≤ now + seconds 30) (sym (cond-true (is_succeeded p.state) (asked_valid setup s fresh p).due (now + seconds 4) t.valid)) (lasting_by s.clock now _ clock short);
      live = omega (arith, soon);
    })
  where
    lasting_by : (c n w : ℕ) → c ≡ n → w ≤ seconds 6 → c + w + seconds 24 ≤ n + seconds 30
    lasting_by c n w same short = omega (arith, same, short)

-- a nomination that is answered counts
true_both : (a b c d : Bool) → b ≡ true → c ≡ true → d ≡ true → (a || (b && (c && d))) ≡ true
true_both true b c d one two three = refl
true_both false b c d one two three = and_from b (c && d) one (and_from c d two three)

pub renewed_nominated : (e : End) (since until : ℕ) (setup : Setup) (s : State) (fresh : ℕ) (role : Role) (now : ℕ) (r : Request) (p : Pair) → now ≤ until → IsTold e since until p
    → r.nominates ≡ true → is_nominating setup s p ≡ true → is_controlling role ≡ true → ((renewed setup s fresh role now r p).chosen ≡ true) × ((renewed setup s fresh role now r p).nominated ≡ true)
renewed_nominated e since until setup s fresh role now r p le t one two three =
    subst (λ (q : Pair). (q.chosen ≡ true) × (q.nominated ≡ true)) (sym (renewed_is e since until setup s fresh role now r p le t))
    (or_right p.chosen (is_nominating setup s p) two, true_both p.nominated (p.chosen || is_nominating setup s p) r.nominates (is_controlling role) (or_right p.chosen (is_nominating setup s p) two) one three)

-- what is marked stays so
pub renewed_marked : (e : End) (since until : ℕ) (setup : Setup) (s : State) (fresh : ℕ) (role : Role) (now : ℕ) (r : Request) (p : Pair) → now ≤ until → IsTold e since until p
    → (p.chosen ≡ true → (renewed setup s fresh role now r p).chosen ≡ true) × (p.nominated ≡ true → (renewed setup s fresh role now r p).nominated ≡ true)
renewed_marked e since until setup s fresh role now r p le t =
    subst (λ (q : Pair). (p.chosen ≡ true → q.chosen ≡ true) × (p.nominated ≡ true → q.nominated ≡ true)) (sym (renewed_is e since until setup s fresh role now r p le t))
    (or_left p.chosen (is_nominating setup s p), or_left p.nominated ((p.chosen || is_nominating setup s p) && (r.nominates && is_controlling role)))

-- and what isn't marked stays so, if it isn't nominated
pub renewed_unmarked : (e : End) (since until : ℕ) (setup : Setup) (s : State) (fresh : ℕ) (role : Role) (now : ℕ) (r : Request) (p : Pair) → now ≤ until → IsTold e since until p
    → is_nominating setup s p ≡ false → p.chosen ≡ false → p.nominated ≡ false → ((renewed setup s fresh role now r p).chosen ≡ false) × ((renewed setup s fresh role now r p).nominated ≡ false)
renewed_unmarked e since until setup s fresh role now r p le t plain one two =
    subst (λ (q : Pair). (q.chosen ≡ false) × (q.nominated ≡ false)) (sym (renewed_is e since until setup s fresh role now r p le t))
    (or_both p.chosen (is_nominating setup s p) one plain, or_both p.nominated ((p.chosen || is_nominating setup s p) && (r.nominates && is_controlling role)) two (and_left (p.chosen || is_nominating setup s p) (r.nominates && is_controlling role) (or_both p.chosen (is_nominating setup s p) one plain)))

-- ---- A check on a valid pair

pub triggers_valid : (p : Pair) → is_succeeded p.state ≡ true → triggers p ≡ p
triggers_valid p valid = cond-true (is_succeeded p.state || is_lost p.state) p (record p { state = Waiting; triggered = true; tries = 0 }) (or_left (is_succeeded p.state) (is_lost p.state) valid)

abbrev IsHeardOn : End → (since until : ℕ) → Role → Check → Pair → Pair → Type 0
IsHeardOn e since until role c p q = IsTold e since until q × (q.chosen ≡ p.chosen) × (p.nominated ≡ true → q.nominated ≡ true) × (is_controlling role ≡ true → q.nominated ≡ p.nominated)
    × (c.nominates ≡ true → is_controlling role ≡ false → q.nominated ≡ true)

pub told_heard : (e : End) (since until : ℕ) (role : Role) (c : Check) (p : Pair) → IsTold e since until p → IsHeardOn e since until role c p (heard role c p)
told_heard e since until role c p t =
    let test : Bool = c.nominates && (not (is_controlling role) && not (is_lost p.state)) in
    cond_both test (record p { heard = true; nominated = true }) (record p { heard = true }) (λ (q : Pair). IsHeardOn e since until role c p (triggers q))
    (λ yes. subst (IsHeardOn e since until role c p) (sym (triggers_valid (record p { heard = true; nominated = true }) t.valid)) (
      record { there = t.there; component = t.component; valid = t.valid; since_by = t.since_by; lasting = t.lasting; live = t.live },
      refl,
      λ _. refl,
      λ is. not_both is (and_parts (not (is_controlling role)) (not (is_lost p.state)) (and_parts c.nominates (not (is_controlling role) && not (is_lost p.state)) yes).1).0,
      λ _. λ _. refl,
    ))
    (λ isnt. subst (IsHeardOn e since until role c p) (sym (triggers_valid (record p { heard = true }) t.valid)) (
      record { there = t.there; component = t.component; valid = t.valid; since_by = t.since_by; lasting = t.lasting; live = t.live },
      refl,
      λ is. is,
      λ _. refl,
      λ one. λ two. neither (p.nominated ≡ true) test (and_from c.nominates (not (is_controlling role) && not (is_lost p.state)) one (and_from (not (is_controlling role)) (not (is_lost p.state)) (ap not two) (ap not (valid_unlost p.state t.valid)))) isnt,
    ))
  where
    not_both : {b : Bool} → b ≡ true → not b ≡ true → true ≡ p.nominated
    not_both one other = absurd cc

-- ---- Urgency

-- a useless pair is tried after all that the way needs
pub useless_low : (e : End) (net : ℕ → Endpoint → Option Place) (setup : Setup) (s : State) (p : Pair) → IsUseless e net p → urgency setup s p ≤ 2
useless_low e net setup s p u = cond_both (is_lost p.state) _ _ (λ n. n ≤ 2) (λ _. omega arith)
    (λ _. cond_both p.triggered _ _ (λ n. n ≤ 2) (λ yes. neither (5 ≤ 2) p.triggered yes u.untriggered)
    (λ _. cond_both (is_choice setup s p) _ _ (λ n. n ≤ 2)
    (λ yes. neither (4 ≤ 2) (is_succeeded p.state) (and_parts (is_succeeded p.state) _ (and_parts (is_controlling s.role) _ yes).1).0 u.invalid)
    (λ _. cond_both (is_succeeded p.state && nat_le p.due s.clock) _ _ (λ n. n ≤ 2) (λ yes. neither (3 ≤ 2) (is_succeeded p.state) (and_parts (is_succeeded p.state) (nat_le p.due s.clock) yes).0 u.invalid)
    (λ _. cond_both (is_fresh s p) _ _ (λ n. n ≤ 2) (λ _. omega arith)
    (λ _. cond_both (is_in_progress p.state && nat_le p.due s.clock) _ _ (λ n. n ≤ 2) (λ _. omega arith) (λ _. omega arith))))))

pub precedence_small : (s : State) (u : ℕ) (p : Pair) → precedence s u p < 2 ^ 64
precedence_small s u p = small _
  where
    small : (n : ℕ) → min (2 ^ 64 - 1) n < 2 ^ 64
    small n = omega arith

score_by : (u v n m : ℕ) → u ≤ 2 → n < 2 ^ 64 → 3 ≤ v → 2 ^ 64 * u + n < 2 ^ 64 * v + m
score_by u v n m low small high = omega (arith, low, small, high)

pub small_by : (b : Bool) (n : ℕ) → n < 2 ^ 64 → (if b then n else 0) < 2 ^ 64
small_by true n is = is
small_by false n is = omega arith

pub score_less : (e : End) (net : ℕ → Endpoint → Option Place) (setup : Setup) (s : State) (p q : Pair) → 3 ≤ urgency setup s p → IsUseless e net q → score setup s q < score setup s p
score_less e net setup s p q high u =
    score_by (urgency setup s q) (urgency setup s p) (if nat_lt 0 (urgency setup s q) then precedence s (urgency setup s q) q else 0) (if nat_lt 0 (urgency setup s p) then precedence s (urgency setup s p) p else 0)
    (useless_low e net setup s q u) (small_by (nat_lt 0 (urgency setup s q)) (precedence s (urgency setup s q) q) (precedence_small s (urgency setup s q) q)) high

pub score_some : (setup : Setup) (s : State) (p : Pair) → 1 ≤ urgency setup s p → 0 < score setup s p
score_some setup s p some = some_by (urgency setup s p) (if nat_lt 0 (urgency setup s p) then precedence s (urgency setup s p) p else 0) some
  where
    some_by : (u n : ℕ) → 1 ≤ u → 0 < 2 ^ 64 * u + n
    some_by u n some = omega (arith, some)

-- a triggered check comes first
pub triggered_high : (setup : Setup) (s : State) (p : Pair) → is_lost p.state ≡ false → p.triggered ≡ true → 3 ≤ urgency setup s p
triggered_high setup s p one two = cond_both (is_lost p.state) _ _ (λ n. 3 ≤ n) (λ yes. neither (3 ≤ 0) (is_lost p.state) yes one)
    (λ _. cond_both p.triggered _ _ (λ n. 3 ≤ n) (λ _. omega arith) (λ isnt. neither _ p.triggered two isnt))

-- and so do a nomination, and a consent check
pub choice_high : (setup : Setup) (s : State) (p : Pair) → is_lost p.state ≡ false → (is_choice setup s p || (is_succeeded p.state && nat_le p.due s.clock)) ≡ true → 3 ≤ urgency setup s p
choice_high setup s p one two = cond_both (is_lost p.state) _ _ (λ n. 3 ≤ n) (λ yes. neither (3 ≤ 0) (is_lost p.state) yes one)
    (λ _. cond_both p.triggered _ _ (λ n. 3 ≤ n) (λ _. omega arith)
    (λ _. cond_both (is_choice setup s p) _ _ (λ n. 3 ≤ n) (λ _. omega arith)
    (λ no_choice. cond_both (is_succeeded p.state && nat_le p.due s.clock) _ _ (λ n. 3 ≤ n) (λ _. omega arith)
    (λ not_due. neither _ (is_choice setup s p || (is_succeeded p.state && nat_le p.due s.clock)) two (or_both (is_choice setup s p) (is_succeeded p.state && nat_le p.due s.clock) no_choice not_due)))))

-- a pair that may be tried is
pub tried_some : (setup : Setup) (s : State) (p : Pair) → is_lost p.state ≡ false → (is_fresh s p || (is_in_progress p.state && nat_le p.due s.clock)) ≡ true → 1 ≤ urgency setup s p
tried_some setup s p one two = cond_both (is_lost p.state) _ _ (λ n. 1 ≤ n) (λ yes. neither (1 ≤ 0) (is_lost p.state) yes one)
    (λ _. cond_both p.triggered _ _ (λ n. 1 ≤ n) (λ _. omega arith)
    (λ _. cond_both (is_choice setup s p) _ _ (λ n. 1 ≤ n) (λ _. omega arith)
    (λ _. cond_both (is_succeeded p.state && nat_le p.due s.clock) _ _ (λ n. 1 ≤ n) (λ _. omega arith)
    (λ _. cond_both (is_fresh s p) _ _ (λ n. 1 ≤ n) (λ _. omega arith)
    (λ not_fresh. cond_both (is_in_progress p.state && nat_le p.due s.clock) _ _ (λ n. 1 ≤ n) (λ _. omega arith)
    (λ not_due. neither _ (is_fresh s p || (is_in_progress p.state && nat_le p.due s.clock)) two (or_both (is_fresh s p) (is_in_progress p.state && nat_le p.due s.clock) not_fresh not_due)))))))

-- a valid pair is one of its component for long, once its patience is over
pub long_valid : (setup : Setup) (s : State) (p : Pair) → is_succeeded p.state ≡ true → p.succeeded_at + setup.patience ≤ s.clock → is_long_valid setup s p p ≡ true
long_valid setup s p valid over = and_from (p.component == p.component) (is_succeeded p.state && nat_le (p.succeeded_at + setup.patience) s.clock) (eq-eqb p.component p.component refl)
    (and_from (is_succeeded p.state) (nat_le (p.succeeded_at + setup.patience) s.clock) valid (le-leb (p.succeeded_at + setup.patience) s.clock over))
