-- The stages of a meeting before the roles are opposite: the way is tried.
use Rattle.std.proofs.Common.{◌≡◌, ℕ, ◌+◌, ◌-◌, ◌*◌, ◌^◌, ◌<◌, ◌≤◌, inl, inr, ◌⊎◌, Bool, true, false, not, ◌||◌, ◌&&◌, List, [], ◌∷◌, Option, Some, refl, sym, ap, subst, ◌∙◌, map, find, arith}
use Rattle.std.specs.List.{AllByRecursion}
use Rattle.std.specs.Prelude.{◌==◌, nat_le, nat_lt, max, if◌then◌else◌}
use Rattle.std.proofs.lemmas.Bool.{cond_both, cond-true, cond-false, and_parts, and_from, and_left, and_right, or_left, or_right, or_cases, le-leb, leb-true, cases_Bool}
use Rattle.stun_endpoints.specs.declared.endpoints.Endpoint.{Endpoint}
use Rattle.ice_machine.specs.Roles.{Role, Controlling, Controlled, keep, switch, refuse, other_role, is_controlling, role_decision}
use Rattle.ice_machine.specs.Agents.{seconds, PairState, Frozen, Waiting, InProgress, Succeeded, Failed, Lost, Pair, Setup, State, pace, is_at, is_succeeded, is_in_progress, is_waiting, is_frozen, is_lost}
use Rattle.ice_machine.specs.Events.{Check, Accepted, Refused}
use Rattle.ice_machine.specs.Pairs.{best}
use Rattle.ice_machine.specs.Checks.{request_on, asked, urgency, score, is_choice, is_under_way, is_kin, is_held, is_fresh, precedence}
use Rattle.ice_machine.specs.Steps.{settled, is_unanswered, is_over, at, changed_first, in_role, is_base, succeeds, answered, asks_on}
use Rattle.ice_machine.specs.Exchanges.{delivered}
use Rattle.ice_machine.specs.Bounds.{AreDistinct}
use Rattle.ice_machine.specs.Runs.{Timed}
use Rattle.ice_machine.specs.Networks.{Place, Agents, gets_to, turn}
use Rattle.ice_machine.specs.Meetings.{End, IsUseless, IsUntold, IsFit, IsAgent, IsPassive, IsTrying, IsCounted, IsNoise, disturbed, tries_left, delay}
use Rattle.ice_machine.proofs.PlacesLemmas.{neither, at_left, settled_left, asked_left, keeps_changed, at_distinct}
use Rattle.ice_machine.proofs.SilenceLemmas.{IsTried, all_tried, IsFirst, all_first, both_each, some_urgency}
use Rattle.ice_machine.proofs.RolesLemmas.{answered_role, in_role_role}
use Rattle.ice_machine.proofs.RightLemmas.{IsGood, best_good}
use Rattle.ice_machine.proofs.MeetLists.{one_none, IsSome, some_best, IsTop, top_best}
use Rattle.ice_machine.proofs.MeetPairs.{IsTriggered, told_thawed, triggered_settled, untold_settled, untold_asked, untold_unnominated, untold_heard, untold_retried, untold_plain, triggered_high, small_by, tried_some, score_some, precedence_small}
use Rattle.ice_machine.proofs.MeetSteps.{moved, Lasts, at_is, at_agent, noise_moves, moved_agent, weaker_agent, vain_agent, turn_goes, turn_is, awaiting}
use Rattle.ice_machine.proofs.MeetExchanges.{exchange_by, own_accepted, own_refused}
use Rattle.ice_machine.proofs.MeetTurns.{Result, agent_exact, served, turned, opposite_keeps, opposite_exchange}
use Rattle.ice_machine.proofs.MeetUnaware.{passive_moved, passive_in_role, passive_based, passive_clock, passive_hears, unaware_turn, in_role_bases}
use Rattle.ice_machine.proofs.MeetStages.{IsValidIn, Leads, untold_valid}

-- both agents after a turn that leaves them in opposite roles
pub record Opposite (e d : End) (net back : ℕ → Endpoint → Option Place) (S T : Role → Pair → Type 0) (now gate until : ℕ) (both : Agents) : Type 0 where
  pub own : IsAgent e net (S both.one.role) now gate both.one
  pub peer : IsAgent d back (T both.other.role) now until both.other
  pub roles : both.one.role ≡ other_role both.other.role

pub opposite_from : (e d : End) (net back : ℕ → Endpoint → Option Place) (S T : Role → Pair → Type 0) (now gate until : ℕ) (r q : Role) (both : Agents) → r ≡ other_role q → Result e d net back (S r) (T q) now gate until r q both
    → Opposite e d net back S T now gate until both
opposite_from e d net back S T now gate until r q both opposite x = record {
  own = subst (λ (t : Role). IsAgent e net (S t) now gate both.one) (sym x.own_role) x.own;
  peer = subst (λ (t : Role). IsAgent d back (T t) now until both.other) (sym x.peer_role) x.peer;
  roles = x.own_role ∙ opposite ∙ ap other_role (sym x.peer_role);
}

-- ---- A check in whatever roles

pub kept_roles : (r q : Role) (t u : ℕ) → role_decision r t q u ≡ keep → q ≡ other_role r
kept_roles Controlling Controlling t u = cond_both (nat_le u t) refuse switch (λ d. d ≡ keep → Controlling ≡ Controlled) (λ _. λ is. absurd cc) (λ _. λ is. absurd cc)
kept_roles Controlled Controlled t u = cond_both (nat_le u t) switch refuse (λ d. d ≡ keep → Controlled ≡ Controlling) (λ _. λ is. absurd cc) (λ _. λ is. absurd cc)
kept_roles Controlling Controlled t u = λ _. refl
kept_roles Controlled Controlling t u = λ _. refl

switched_roles : (r q : Role) (t u : ℕ) → role_decision r t q u ≡ switch → q ≡ other_role (other_role r)
switched_roles Controlling Controlling t u = λ _. refl
switched_roles Controlled Controlled t u = λ _. refl
switched_roles Controlling Controlled t u = λ is. absurd cc
switched_roles Controlled Controlling t u = λ is. absurd cc

refused_roles : (r q : Role) (t u : ℕ) → role_decision r t q u ≡ refuse → other_role q ≡ other_role r
refused_roles Controlling Controlling t u = λ _. refl
refused_roles Controlled Controlled t u = λ _. refl
refused_roles Controlling Controlled t u = λ is. absurd cc
refused_roles Controlled Controlling t u = λ is. absurd cc

-- one's check is triggered, and the other may try the way, or doesn't know it
pub record HasRefused (e d : End) (net back : ℕ → Endpoint → Option Place) (peer_setup : Setup) (now gate until : ℕ) (both : Agents) : Type 0 where
  pub own : IsAgent e net (IsTriggered e) now gate both.one
  pub peer : IsPassive d back peer_setup now until both.other
  pub roles : both.one.role ≡ other_role both.other.role

-- and the other way round
pub record Declined (e d : End) (net back : ℕ → Endpoint → Option Place) (own_setup : Setup) (now gate until : ℕ) (both : Agents) : Type 0 where
  pub own : IsPassive e net own_setup now gate both.one
  pub peer : IsAgent d back (IsTriggered d) now until both.other
  pub roles : both.one.role ≡ other_role both.other.role

-- a first check is accepted, or answered with 487
abbrev pub Tried : (e d : End) (net back : ℕ → Endpoint → Option Place) (peer_setup : Setup) → (now next gate until : ℕ) → Agents → Type 0
Tried e d net back peer_setup now next gate until both = Opposite e d net back (IsValidIn e now next) (λ _. IsTriggered d) now gate until both
    ⊎ HasRefused e d net back peer_setup now gate until both

own_valid : (e : End) (net : ℕ → Endpoint → Option Place) (own_setup : Setup) (now next fresh anew : ℕ) (s : State) (y : Pair) → next ≤ now + seconds 20 → IsUntold e y → s.clock ≡ now → IsAgent e net (λ z. z ≡ y) now now s
    → IsAgent e net (IsValidIn e now next s.role) now (now + pace own_setup) (answered anew (request_on own_setup s fresh y) Accepted (awaiting own_setup now fresh s y))
own_valid e net own_setup now next fresh anew s y soon u clock a =
    own_accepted e net (λ z. z ≡ y) (IsValidIn e now next s.role) own_setup now now fresh anew s y clock u.there (λ z same. ap (is_at e.base e.to) same ∙ u.there)
    (λ z same. subst (λ (x : Pair). IsValidIn e now next s.role (succeeds s.role now (request_on own_setup s fresh y) (settled own_setup now (asked own_setup s fresh x)))) (sym same) (untold_valid e own_setup s fresh now next s.role y soon u))
    (λ o z v. subst (IsValidIn e now next s.role) (sym (told_thawed e now next o z v.0)) v) a

pub untold_exchange : (own_setup peer_setup : Setup) (e d : End) (net back : ℕ → Endpoint → Option Place) (now next until fresh anew : ℕ) (s peer : State) (y : Pair)
    → IsFit own_setup → next ≤ now + seconds 20 → IsUntold e y → s.clock ≡ now → IsAgent e net (λ z. z ≡ y) now now s → IsPassive d back peer_setup now until peer
    → Tried e d net back peer_setup now next (now + pace own_setup) until (gets_to own_setup peer_setup now anew (request_on own_setup s fresh y) (asks_on own_setup fresh s y).state peer (Some (record { base = d.base; from = d.to })))
untold_exchange own_setup peer_setup e d net back now next until fresh anew s peer y fit soon u clock a b =
    let c : Check = delivered (request_on own_setup s fresh y) d.base d.to in
    let p : State = moved peer_setup now peer in
    let b_now : IsPassive d back peer_setup now until p = passive_moved d back peer_setup now now until peer b in
    let plain = untold_plain e own_setup s y u in
    let good = own_valid e net own_setup now next fresh anew s y soon u clock a in
    exchange_by (Tried e d net back peer_setup now next (now + pace own_setup) until) own_setup now fresh anew s y peer_setup peer d.base d.to clock fit.room (passive_clock d back peer_setup now until peer b) (passive_based d back peer_setup now until peer b) (record {
      kept = λ base number found is. inl (record {
        own = good;
        peer = passive_hears d back peer_setup base c now until p number found refl refl plain b_now;
        roles = kept_roles p.role s.role p.tiebreaker s.tiebreaker is;
      });
      switched = λ base number found is.
          let q : State = in_role (other_role p.role) p in
          inl (record {
            own = good;
            peer = passive_hears d back peer_setup base c now until q number (ap (find (is_base d.base)) (in_role_bases (other_role p.role) p) ∙ found) refl refl plain (passive_in_role d back peer_setup (other_role p.role) now until p b_now);
            roles = switched_roles p.role s.role p.tiebreaker s.tiebreaker is ∙ ap other_role (sym (in_role_role (other_role p.role) p));
          });
      declined = λ is. inr (record {
        own = own_refused e net (λ z. z ≡ y) (IsUntold e) (IsTriggered e) own_setup now now fresh anew s y clock u.there (λ z v. v.there) (λ z same. ap (is_at e.base e.to) same ∙ u.there)
            (λ z same. subst (λ (x : Pair). IsUntold e (settled own_setup now (asked own_setup s fresh x))) (sym same) (untold_settled e own_setup now (asked own_setup s fresh y) (untold_asked e own_setup s fresh y u)))
            (λ z v. untold_unnominated e z v) (λ z v. untold_retried e z v) a;
        peer = b_now;
        roles = answered_role anew (request_on own_setup s fresh y) (Refused 487) (awaiting own_setup now fresh s y) ∙ refused_roles p.role s.role p.tiebreaker s.tiebreaker is;
      });
    })

-- a triggered check, where the other agent may try the way
pub refused_turn : (own_setup peer_setup : Setup) (e d : End) (net back : ℕ → Endpoint → Option Place) (now until next fresh anew : ℕ) (own peer : State)
    → IsFit own_setup → Leads e d net → next ≤ now + seconds 20 → IsAgent e net (IsTriggered e) now now own → IsPassive d back peer_setup now until peer → own.role ≡ other_role peer.role
    → Opposite e d net back (IsValidIn e now next) (λ _. IsTriggered d) now (now + pace own_setup) until (turn own_setup peer_setup net now fresh anew own peer)
refused_turn own_setup peer_setup e d net back now until next fresh anew own peer fit way soon a b opposite =
    let s : State = moved own_setup now own in
    let p : State = moved peer_setup now peer in
    let R : Agents → Type 0 = Opposite e d net back (IsValidIn e now next) (λ _. IsTriggered d) now (now + pace own_setup) until in
    let x = agent_exact e net (IsTriggered e) now now s (moved_agent e net (IsTriggered e) (IsTriggered e) own_setup now now now own (λ z is. triggered_settled e own_setup now z is) a) in
    let y : Pair = x.0 in
    let c : Check = delivered (request_on own_setup s fresh y) d.base d.to in
    let decision : role_decision p.role p.tiebreaker s.role s.tiebreaker ≡ keep = ap (λ (r : Role). role_decision p.role p.tiebreaker r s.tiebreaker) opposite ∙ opposite_keeps p.role p.tiebreaker s.tiebreaker in
    subst R (sym (turn_is own_setup peer_setup net now fresh anew own peer a.clock))
    (served R own_setup peer_setup e net (record { base = d.base; from = d.to }) now fresh anew s peer y way x.1.0.there refl x.2 (triggered_high own_setup s y x.1.0.unlost x.1.1)
    (exchange_by R own_setup now fresh anew s y peer_setup peer d.base d.to refl fit.room (passive_clock d back peer_setup now until peer b) (passive_based d back peer_setup now until peer b) (record {
      kept = λ base number found is. record {
        own = own_valid e net own_setup now next fresh anew s y soon x.1.0 refl x.2;
        peer = passive_hears d back peer_setup base c now until p number found refl refl (untold_plain e own_setup s y x.1.0) (passive_moved d back peer_setup now now until peer b);
        roles = opposite;
      };
      switched = λ base number found is. absurd (let bad : keep ≡ switch = sym decision ∙ is in cc);
      declined = λ is. absurd (let bad : keep ≡ refuse = sym decision ∙ is in cc);
    })))

-- a passive agent's turn, where a check is triggered at the other one
pub untold_turn : (own_setup peer_setup : Setup) (e d : End) (net back : ℕ → Endpoint → Option Place) (now until next fresh anew : ℕ) (own peer : State)
    → IsFit own_setup → Leads e d net → next ≤ now + seconds 20 → IsPassive e net own_setup now now own → IsAgent d back (IsTriggered d) now until peer → own.role ≡ other_role peer.role
    → Opposite e d net back (IsValidIn e now next) (λ _. IsTriggered d) now (now + pace own_setup) until (turn own_setup peer_setup net now fresh anew own peer)
    ⊎ Declined e d net back own_setup now (now + pace own_setup) until (turn own_setup peer_setup net now fresh anew own peer)
untold_turn own_setup peer_setup e d net back now until next fresh anew own peer fit way soon (inl a) b opposite =
    let s : State = moved own_setup now own in
    let place : Place = record { base = d.base; from = d.to } in
    let W : Agents → Type 0 = λ both. Opposite e d net back (IsValidIn e now next) (λ _. IsTriggered d) now (now + pace own_setup) until both ⊎ Declined e d net back own_setup now (now + pace own_setup) until both in
    let x = agent_exact e net (IsUntold e) now now s (moved_agent e net (IsUntold e) (IsUntold e) own_setup now now now own (λ z is. untold_settled e own_setup now z is) a) in
    let y : Pair = x.0 in
    subst W (sym (turn_is own_setup peer_setup net now fresh anew own peer a.clock))
    (turned W own_setup peer_setup e net place now fresh anew s peer y way x.1.there refl x.2
    (λ t agent role. inr (record {
      own = inl (weaker_agent e net (λ z. z ≡ y) (IsUntold e) now now (now + pace own_setup) (now + pace own_setup) t (λ z same. subst (IsUntold e) (sym same) x.1) (omega arith) (omega arith) agent);
      peer = b;
      roles = role ∙ opposite;
    }))
    (inl (opposite_from e d net back (IsValidIn e now next) (λ _. IsTriggered d) now (now + pace own_setup) until own.role peer.role _ opposite
    (opposite_exchange own_setup peer_setup e d net back (IsTriggered d) (IsValidIn e now next own.role) (IsTriggered d) now until fresh anew s peer y fit x.1.there refl x.2 b opposite
    (untold_valid e own_setup s fresh now next own.role y soon x.1) (λ o z v. subst (IsValidIn e now next own.role) (sym (told_thawed e now next o z v.0)) v) (λ z v. v.0.there) (λ z v. triggered_settled d peer_setup now z v)
    (λ z v. untold_heard d peer.role (delivered (request_on own_setup s fresh y) d.base d.to) z (untold_plain e own_setup s y x.1) v.0)))))
untold_turn own_setup peer_setup e d net back now until next fresh anew own peer fit way soon (inr a) b opposite =
    let W : Agents → Type 0 = λ both. Opposite e d net back (IsValidIn e now next) (λ _. IsTriggered d) now (now + pace own_setup) until both ⊎ Declined e d net back own_setup now (now + pace own_setup) until both in
    subst W (sym (turn_is own_setup peer_setup net now fresh anew own peer a.clock))
    (unaware_turn W own_setup peer_setup e net net now fresh anew own peer (λ x u. u.unanswered) a (λ t agent role. inr (record { own = inr agent; peer = b; roles = role ∙ opposite })))

-- ---- How long the useless pairs may delay

settled_left_by : (count : ℕ) (setup : Setup) (now : ℕ) (p : Pair) → tries_left count (settled setup now p) ≤ tries_left count p
settled_left_by count setup now p = cond_both (is_unanswered setup now p) _ _ (λ (q : Pair). tries_left count q ≤ tries_left count p) (λ _. omega arith)
    (λ _. cond_both (is_over now p) _ _ (λ (q : Pair). tries_left count q ≤ tries_left count p) (λ _. omega arith) (λ _. omega arith))

pub delay_settled : (count : ℕ) (setup : Setup) (e : End) (now : ℕ) (ps : List Pair) → delay count e (map {B = Pair} (settled setup now) ps) ≤ delay count e ps
delay_settled count setup e now [] = omega arith
delay_settled count setup e now (p ∷ ps) =
    let rest = delay_settled count setup e now ps in
    let one = settled_left_by count setup now p in
    let place : is_at e.base e.to (settled setup now p) ≡ is_at e.base e.to p = at_left e.base e.to p (settled setup now p) (settled_left setup now p) in
    subst (λ (b : Bool). (if b then 0 else tries_left count (settled setup now p)) + delay count e (map {B = Pair} (settled setup now) ps) ≤ (if is_at e.base e.to p then 0 else tries_left count p) + delay count e ps) (sym place)
    (sum_less (is_at e.base e.to p) (tries_left count (settled setup now p)) (tries_left count p) (delay count e (map {B = Pair} (settled setup now) ps)) (delay count e ps) one rest)
  where
    sum_less : (b : Bool) (i j m n : ℕ) → i ≤ j → m ≤ n → (if b then 0 else i) + m ≤ (if b then 0 else j) + n
    sum_less true i j m n one rest = omega (arith, rest)
    sum_less false i j m n one rest = omega (arith, one, rest)

pub delay_changed : (count : ℕ) (e : End) (test : Pair → Bool) (f : Pair → Pair) (ps : List Pair) (x : Pair) → find test ps ≡ Some x → is_at e.base e.to x ≡ false → is_at e.base e.to (f x) ≡ false
    → tries_left count (f x) < tries_left count x → delay count e (changed_first test f ps) < delay count e ps
delay_changed count e test f [] x is away too less = absurd cc
delay_changed count e test f (p ∷ ps) x is away too less = cond_both (test p) (f p ∷ ps) (p ∷ changed_first test f ps) (λ qs. delay count e qs < delay count e (p ∷ ps))
    (λ yes_it.
    let same : x ≡ p = some_is x p (sym is ∙ cond-true (test p) (Some p) (find test ps) yes_it) in
    subst (λ (z : Pair). delay count e (f z ∷ ps) < delay count e (z ∷ ps)) same
    (less_by (is_at e.base e.to (f x)) (is_at e.base e.to x) (tries_left count (f x)) (tries_left count x) (delay count e ps) too away less))
    (λ no_it. add_by (if is_at e.base e.to p then 0 else tries_left count p) _ _ (delay_changed count e test f ps x (sym (cond-false (test p) (Some p) (find test ps) no_it) ∙ is) away too less))
  where
    some_is : (a b : Pair) → Some a ≡ Some b → a ≡ b
    some_is a b same = cc

    less_by : (b c : Bool) (i j n : ℕ) → b ≡ false → c ≡ false → i < j → (if b then 0 else i) + n < (if c then 0 else j) + n
    less_by true c i j n one two less = absurd cc
    less_by false true i j n one two less = absurd cc
    less_by false false i j n one two less = omega (arith, less)

    add_by : (i m n : ℕ) → m < n → i + m < i + n
    add_by i m n less = omega (arith, less)

-- a useless pair that is asked has one try less
fresh_left : (n tries : ℕ) (phase : PairState) → (is_waiting phase || is_frozen phase) ≡ true → n - (tries + 1) < (if is_waiting phase || is_frozen phase then 1 + n else (if is_in_progress phase then n - tries else 0))
fresh_left n tries Frozen is = omega arith
fresh_left n tries Waiting is = omega arith
fresh_left n tries InProgress is = absurd cc
fresh_left n tries Succeeded is = absurd cc
fresh_left n tries Failed is = absurd cc
fresh_left n tries Lost is = absurd cc

tried_left : (n tries : ℕ) (phase : PairState) → is_in_progress phase ≡ true → tries < n → n - (tries + 1) < (if is_waiting phase || is_frozen phase then 1 + n else (if is_in_progress phase then n - tries else 0))
tried_left n tries Frozen is less = absurd cc
tried_left n tries Waiting is less = absurd cc
tried_left n tries InProgress is less = omega (arith, less)
tried_left n tries Succeeded is less = absurd cc
tried_left n tries Failed is less = absurd cc
tried_left n tries Lost is less = absurd cc

waiting_or : (a b c : Bool) → (a || (b && c)) ≡ true → (a || b) ≡ true
waiting_or true b c is = refl
waiting_or false b c is = (and_parts b c is).0

pub asked_less : (e : End) (net : ℕ → Endpoint → Option Place) (count : ℕ) (setup : Setup) (s : State) (fresh : ℕ) (x : Pair) → IsUseless e net x → IsTried setup s.clock x → (setup.most_tries ≤ count) ⊎ (2 ≤ urgency setup s x) → 0 < urgency setup s x
    → tries_left count (asked setup s fresh x) < tries_left count x
asked_less e net count setup s fresh x u tried counted some =
    let goal : Type 0 = tries_left count (asked setup s fresh x) < tries_left count x in
    let P : ℕ → Type 0 = λ n. (setup.most_tries ≤ count) ⊎ (2 ≤ n) → 0 < n → goal in
    cond_both (is_lost x.state) _ _ P (λ _. λ _. λ some. absurd (omega (arith, some)))
    (λ unlost.
    let asked_it : asked setup s fresh x ≡ record x { state = InProgress; triggered = false; due = _; tries = x.tries + 1 } = cond-false (is_lost x.state) _ _ unlost ∙ cond-false (is_succeeded x.state) _ _ u.invalid in
    cond_both x.triggered _ _ P (λ is. λ _. λ _. neither goal x.triggered is u.untriggered)
    (λ _. cond_both (is_choice setup s x) _ _ P
    (λ is. λ _. λ _. neither goal (is_succeeded x.state) (and_parts (is_succeeded x.state) _ (and_parts (is_controlling s.role) _ is).1).0 u.invalid)
    (λ _. cond_both (is_succeeded x.state && nat_le x.due s.clock) _ _ P (λ is. λ _. λ _. neither goal (is_succeeded x.state) (and_parts (is_succeeded x.state) (nat_le x.due s.clock) is).0 u.invalid)
    (λ _. cond_both (is_fresh s x) _ _ P
    (λ is. λ _. λ _. subst (λ (q : Pair). tries_left count q < tries_left count x) (sym asked_it) (fresh_left count x.tries x.state (waiting_or (is_waiting x.state) (is_frozen x.state) (not (is_held s.pairs x)) is)))
    (λ _. cond_both (is_in_progress x.state && nat_le x.due s.clock) _ _ P
    (λ is. λ counted. λ _. elim counted as (λ w. goal) [
      | inl enough ↦ let both = and_parts (is_in_progress x.state) (nat_le x.due s.clock) is in
          subst (λ (q : Pair). tries_left count q < tries_left count x) (sym asked_it) (tried_left count x.tries x.state both.0 (let less = tried both.0 both.1 in omega (arith, less, enough)))
      | inr high ↦ absurd (omega (arith, high))
    ])
    (λ _. λ _. λ some. absurd (omega (arith, some)))))))) counted some

-- a pair that isn't the best while a fresh one is there is at least as urgent
fresh_two : (setup : Setup) (s : State) (p : Pair) → is_lost p.state ≡ false → is_fresh s p ≡ true → 2 ≤ urgency setup s p
fresh_two setup s p one two = cond_both (is_lost p.state) _ _ (λ n. 2 ≤ n) (λ is. neither (2 ≤ 0) (is_lost p.state) is one)
    (λ _. cond_both p.triggered _ _ (λ n. 2 ≤ n) (λ _. omega arith)
    (λ _. cond_both (is_choice setup s p) _ _ (λ n. 2 ≤ n) (λ _. omega arith)
    (λ _. cond_both (is_succeeded p.state && nat_le p.due s.clock) _ _ (λ n. 2 ≤ n) (λ _. omega arith)
    (λ _. cond_both (is_fresh s p) _ _ (λ n. 2 ≤ n) (λ _. omega arith) (λ isnt. neither _ (is_fresh s p) two isnt)))))

urgent_too : (e : End) (net : ℕ → Endpoint → Option Place) (setup : Setup) (s : State) (y x : Pair) → 2 ≤ urgency setup s y → score setup s y ≤ score setup s x → IsUseless e net x → 2 ≤ urgency setup s x
urgent_too e net setup s y x high le u = urgent_by (urgency setup s y) (urgency setup s x) (if nat_lt 0 (urgency setup s y) then precedence s (urgency setup s y) y else 0) (if nat_lt 0 (urgency setup s x) then precedence s (urgency setup s x) x else 0) high
    (small_by (nat_lt 0 (urgency setup s x)) (precedence s (urgency setup s x) x) (precedence_small s (urgency setup s x) x)) le
  where
    urgent_by : (u v n m : ℕ) → 2 ≤ u → m < 2 ^ 64 → 2 ^ 64 * u + n ≤ 2 ^ 64 * v + m → 2 ≤ v
    urgent_by u v n m high small le = omega (arith, high, small, le)

-- ---- A pair that is still tried

-- it has tries left, the next of which is due at a moment, or before
pub record IsGoing (e : End) (setup : Setup) (due : ℕ) (p : Pair) : Type 0 where
  pub foundation : p.foundation ≡ e.foundation
  pub remote_foundation : p.remote_foundation ≡ e.remote_foundation
  pub going : ((is_waiting p.state || is_frozen p.state) ≡ true)
      ⊎ ((is_in_progress p.state ≡ true) × (p.tries < setup.most_tries) × (p.due ≤ due))

abbrev pub IsHoping : End → Setup → (count due : ℕ) → Pair → Type 0
IsHoping e setup count due p = IsUntold e p × IsGoing e setup due p × IsCounted setup count p

no_way : (P : Type 0) (phase : PairState) → (is_waiting phase || is_frozen phase) ≡ true → is_in_progress phase ≡ true → P
no_way P Frozen is other = absurd cc
no_way P Waiting is other = absurd cc
no_way P InProgress is other = absurd cc
no_way P Succeeded is other = absurd cc
no_way P Failed is other = absurd cc
no_way P Lost is other = absurd cc

pub hoping_settled : (e : End) (setup : Setup) (count due now : ℕ) (p : Pair) → IsHoping e setup count due p → settled setup now p ≡ p
hoping_settled e setup count due now p h = cond_both (is_unanswered setup now p) _ _ (λ (q : Pair). q ≡ p)
    (λ is. let one = and_parts (is_in_progress p.state) (nat_le setup.most_tries p.tries && nat_le p.due now) is in
    let two = and_parts (nat_le setup.most_tries p.tries) (nat_le p.due now) one.1 in
    elim h.1.going as (λ w. record p { state = Failed } ≡ p) [
      | inl fresh ↦ no_way (record p { state = Failed } ≡ p) p.state fresh one.0
      | inr going ↦ absurd (let less = going.1 in let more = leb-true setup.most_tries p.tries two.0 in omega (arith, less, more))
    ])
    (λ _. cond-false (is_over now p) _ p (and_left (is_succeeded p.state) (nat_le p.expires_at now) h.0.invalid))

-- it is urgent, once it is due: none of its foundation holds it
not_under_way : (phase : PairState) → is_frozen phase ≡ true → is_under_way phase ≡ false
not_under_way Frozen is = refl
not_under_way Waiting is = absurd cc
not_under_way InProgress is = absurd cc
not_under_way Succeeded is = absurd cc
not_under_way Failed is = absurd cc
not_under_way Lost is = absurd cc

hoping_fresh : (e : End) (net : ℕ → Endpoint → Option Place) (setup : Setup) (count due now gate : ℕ) (s : State) (y : Pair) → IsAgent e net (λ z. z ≡ y) now gate s → IsHoping e setup count due y → (is_waiting y.state || is_frozen y.state) ≡ true → is_fresh s y ≡ true
hoping_fresh e net setup count due now gate s y a h fresh = elim (or_cases (is_waiting y.state) (is_frozen y.state) fresh) as (λ w. is_fresh s y ≡ true) [
  | inl waits ↦ or_left (is_waiting y.state) (is_frozen y.state && not (is_held s.pairs y)) waits
  | inr frost ↦ or_right (is_waiting y.state) (is_frozen y.state && not (is_held s.pairs y)) (and_from (is_frozen y.state) (not (is_held s.pairs y)) frost (ap not
      (one_none (λ z. z ≡ y) (IsUseless e net) (λ q. is_kin y q && is_under_way q.state)
      (λ z same. subst (λ (q : Pair). (is_kin y q && is_under_way q.state) ≡ false) (sym same) (and_right (is_kin y y) (is_under_way y.state) (not_under_way y.state frost)))
      (λ z u. and_left (is_kin y z) (is_under_way z.state)
      (ap (λ (f : ℕ). (f == z.foundation) && (y.remote_foundation == z.remote_foundation)) h.1.foundation ∙ ap (λ (f : ℕ). (e.foundation == z.foundation) && (f == z.remote_foundation)) h.1.remote_foundation ∙ u.apart)) s.pairs a.pairs)))
]

hoping_urgent : (e : End) (net : ℕ → Endpoint → Option Place) (setup : Setup) (count due now gate : ℕ) (s : State) (y : Pair) → s.clock ≡ now → due ≤ now → IsAgent e net (λ z. z ≡ y) now gate s → IsHoping e setup count due y → 1 ≤ urgency setup s y
hoping_urgent e net setup count due now gate s y clock le a h = tried_some setup s y h.0.unlost (elim h.1.going as (λ w. (is_fresh s y || (is_in_progress y.state && nat_le y.due s.clock)) ≡ true) [
  | inl fresh ↦ or_left (is_fresh s y) (is_in_progress y.state && nat_le y.due s.clock) (hoping_fresh e net setup count due now gate s y a h fresh)
  | inr going ↦ or_right (is_fresh s y) (is_in_progress y.state && nat_le y.due s.clock) (and_from (is_in_progress y.state) (nat_le y.due s.clock) going.0 (le-leb y.due s.clock (let one = going.2 in omega (arith, one, le, clock))))
])

hoping_lasts : (e : End) (setup : Setup) (count due c : ℕ) (z : Pair) → IsHoping e setup count due z → IsHoping e setup count due (settled setup c z)
hoping_lasts e setup count due c z h = subst (IsHoping e setup count due) (sym (hoping_settled e setup count due c z h)) h

trying_at : (e : End) (net : ℕ → Endpoint → Option Place) (count : ℕ) (setup : Setup) (P : Pair → Type 0) (now gate most t : ℕ) (s : State) → Lasts setup now P → t ≤ now → IsTrying e net count P now gate most s → IsTrying e net count P now gate most (at setup t s)
trying_at e net count setup P now gate most t s lasts le x = record {
  agent = at_agent e net P setup t now gate s lasts le x.agent;
  distinct = at_distinct setup t s x.distinct;
  few = let less = delay_settled count setup e (max s.clock t) s.pairs in let few = x.few in omega (arith, less, few);
}

pub trying_disturbed_by : (e : End) (net : ℕ → Endpoint → Option Place) (count : ℕ) (setup : Setup) (P : Pair → Type 0) (now gate most : ℕ) (s : State) (ts : List Timed) → Lasts setup now P → AllByRecursion (IsNoise now) ts
    → IsTrying e net count P now gate most s → IsTrying e net count P now gate most (disturbed setup s ts)
trying_disturbed_by e net count setup P now gate most s [] lasts noise x = x
trying_disturbed_by e net count setup P now gate most s (t ∷ ts) lasts noise x =
    let before : State = disturbed setup s ts in
    subst (IsTrying e net count P now gate most) (sym (noise_moves setup before t.now t.fresh t.event noise.0.0))
    (trying_at e net count setup P now gate most t.now before lasts noise.0.1 (trying_disturbed_by e net count setup P now gate most s ts lasts noise.1 x))

pub trying_disturbed : (e : End) (net : ℕ → Endpoint → Option Place) (count : ℕ) (setup : Setup) (due now gate most : ℕ) (s : State) (ts : List Timed) → AllByRecursion (IsNoise now) ts
    → IsTrying e net count (IsHoping e setup count due) now gate most s → IsTrying e net count (IsHoping e setup count due) now gate most (disturbed setup s ts)
trying_disturbed e net count setup due now gate most s ts noise x = trying_disturbed_by e net count setup (IsHoping e setup count due) now gate most s ts (λ c z _ h. hoping_lasts e setup count due c z h) noise x

pub trying_later : (e : End) (net : ℕ → Endpoint → Option Place) (count : ℕ) (P : Pair → Type 0) (now gate most now_2 gate_2 most_2 : ℕ) (s : State) → now ≤ now_2 → gate ≤ gate_2 → most ≤ most_2
    → IsTrying e net count P now gate most s → IsTrying e net count P now_2 gate_2 most_2 s
trying_later e net count P now gate most now_2 gate_2 most_2 s one two three x = record {
  agent = weaker_agent e net P P now now_2 gate gate_2 s (λ z h. h) one two x.agent;
  distinct = x.distinct;
  few = let few = x.few in omega (arith, three, few);
}

-- after its turn it has had an answer, or a useless try was made, or the way wasn't due
pub record Waits (e d : End) (net back : ℕ → Endpoint → Option Place) (setup peer_setup : Setup) (count due now gate until most : ℕ) (both : Agents) : Type 0 where
  pub own : IsTrying e net count (IsHoping e setup count due) now gate most both.one
  pub peer : IsPassive d back peer_setup now until both.other

-- by one try less, once it is due
abbrev pub less_when : (due now most : ℕ) → ℕ
less_when due now most = if nat_le due now then most - 1 else most

pub vain_first : (setup : Setup) (now : ℕ) (s : State) (ps : List Pair) (x : Pair) → s.pairs ≡ map {B = Pair} (settled setup now) ps → AreDistinct s.pairs → best (score setup s) s.pairs ≡ Some x → IsFirst s.pairs x × IsTried setup now x
vain_first setup now s ps x are distinct is =
    let tried : AllByRecursion (IsTried setup now) s.pairs = subst (AllByRecursion (IsTried setup now)) (sym are) (all_tried setup now ps) in
    let good : IsGood (λ z. IsFirst s.pairs z × IsTried setup now z) (score setup s) (best (score setup s) s.pairs) = best_good (λ z. IsFirst s.pairs z × IsTried setup now z) (score setup s) s.pairs (both_each (IsFirst s.pairs) (IsTried setup now) s.pairs (all_first s.pairs distinct) tried) in
    (subst (IsGood (λ z. IsFirst s.pairs z × IsTried setup now z) (score setup s)) is good).0

less_if : (due now before then_1 most : ℕ) → then_1 < before → before ≤ most → then_1 ≤ less_when due now most
less_if due now before then_1 most less le = cond_both (nat_le due now) (most - 1) most (λ n. then_1 ≤ n) (λ _. omega (arith, less, le)) (λ _. omega (arith, less, le))

pub trying_turn : (own_setup peer_setup : Setup) (e d : End) (net back : ℕ → Endpoint → Option Place) (count due most now until next fresh anew : ℕ) (own peer : State)
    → IsFit own_setup → Leads e d net → next ≤ now + seconds 20 → IsTrying e net count (IsHoping e own_setup count due) now now most own → IsPassive d back peer_setup now until peer
    → Tried e d net back peer_setup now next (now + pace own_setup) until (turn own_setup peer_setup net now fresh anew own peer)
    ⊎ (Waits e d net back own_setup peer_setup count due now (now + pace own_setup) until (less_when due now most) (turn own_setup peer_setup net now fresh anew own peer) × ((due ≤ now) → 1 ≤ most))
trying_turn own_setup peer_setup e d net back count due most now until next fresh anew own peer fit way soon a b =
    let s : State = moved own_setup now own in
    let place : Place = record { base = d.base; from = d.to } in
    let W : Agents → Type 0 = λ both. Tried e d net back peer_setup now next (now + pace own_setup) until both ⊎ (Waits e d net back own_setup peer_setup count due now (now + pace own_setup) until (less_when due now most) both × ((due ≤ now) → 1 ≤ most)) in
    let x = agent_exact e net (IsHoping e own_setup count due) now now s (moved_agent e net (IsHoping e own_setup count due) (IsHoping e own_setup count due) own_setup now now now own (λ z h. hoping_lasts e own_setup count due now z h) a.agent) in
    let y : Pair = x.0 in
    let h : IsHoping e own_setup count due y = x.1 in
    let distinct : AreDistinct s.pairs = subst (λ (t : State). AreDistinct t.pairs) (at_is own_setup now own a.agent.clock) (at_distinct own_setup now own a.distinct) in
    let fewer : delay count e s.pairs ≤ delay count e own.pairs = delay_settled count own_setup e now own.pairs in
    let back_to : (t : State) → IsAgent e net (λ z. z ≡ y) now (now + pace own_setup) t → IsAgent e net (IsHoping e own_setup count due) now (now + pace own_setup) t =
    λ t agent. weaker_agent e net (λ z. z ≡ y) (IsHoping e own_setup count due) now now (now + pace own_setup) (now + pace own_setup) t (λ z same. subst (IsHoping e own_setup count due) (sym same) h) (omega arith) (omega arith) agent in
    subst W (sym (turn_is own_setup peer_setup net now fresh anew own peer a.agent.clock))
    (turn_goes W own_setup peer_setup e net place (λ z. z ≡ y) now fresh anew s peer way (λ z same. ap (is_at e.base e.to) same ∙ h.0.there) refl x.2 (record {
      idle = λ none. elim (cases_Bool (nat_le due now)) as (λ w. W (record { one = s; other = peer })) [
        | inl is_due ↦ absurd (subst IsSome none (some_best (λ z. z ≡ y) (IsUseless e net) (score own_setup s)
            (λ z same. subst (λ (q : Pair). 0 < score own_setup s q) (sym same) (score_some own_setup s y (hoping_urgent e net own_setup count due now now s y refl (leb-true due now is_due) x.2 h))) s.pairs x.2.pairs))
        | inr isnt ↦ inr (
          record {
            own = record {
              agent = back_to s (weaker_agent e net (λ z. z ≡ y) (λ z. z ≡ y) now now now (now + pace own_setup) s (λ z is. is) (omega arith) (omega arith) x.2);
              distinct = distinct;
              few = subst (λ (n : ℕ). delay count e s.pairs ≤ n) (sym (cond-false (nat_le due now) (most - 1) most isnt)) (let few = a.few in omega (arith, few, fewer));
            };
            peer = b;
          },
          λ le. neither (1 ≤ most) (nat_le due now) (le-leb due now le) isnt,
        )
      ];
      vain = λ v u some is.
          let first = vain_first own_setup now s own.pairs v refl distinct is in
          let urgent : 0 < urgency own_setup s v = some_urgency (urgency own_setup s v) (precedence s (urgency own_setup s v) v) some in
          let above : score own_setup s y ≤ score own_setup s v = subst (IsTop (score own_setup s y) (score own_setup s)) is (top_best (IsUseless e net) (score own_setup s) y s.pairs x.2.pairs) in
          let counted : (own_setup.most_tries ≤ count) ⊎ (2 ≤ urgency own_setup s v) = elim h.2 as (λ w. (own_setup.most_tries ≤ count) ⊎ (2 ≤ urgency own_setup s v)) [
            | inl enough ↦ inl enough
            | inr fresh_it ↦ inr (urgent_too e net own_setup s y v (fresh_two own_setup s y h.0.unlost (hoping_fresh e net own_setup count due now now s y x.2 h fresh_it)) above u)
          ] in
          let less : delay count e (asks_on own_setup fresh s v).state.pairs < delay count e s.pairs = delay_changed count e (is_at v.base v.remote) (asked own_setup s fresh) s.pairs v first.0 u.elsewhere
          (at_left e.base e.to v (asked own_setup s fresh v) (asked_left own_setup s fresh v) ∙ u.elsewhere) (asked_less e net count own_setup s fresh v u first.1 counted urgent) in
          let few = a.few in
          inr (
            record {
              own = record {
                agent = back_to (asks_on own_setup fresh s v).state (vain_agent e net (λ z. z ≡ y) own_setup now now fresh s v refl u (λ z same. ap (is_at e.base e.to) same ∙ h.0.there) x.2);
                distinct = (keeps_changed (is_at v.base v.remote) (asked own_setup s fresh) (asked_left own_setup s fresh) s.pairs).distinct distinct;
                few = less_if due now (delay count e s.pairs) (delay count e (asks_on own_setup fresh s v).state.pairs) most less (omega (arith, few, fewer));
              };
              peer = b;
            },
            λ _. omega (arith, less, few, fewer),
          );
      good = λ z same some is. subst (λ (q : Pair). W (gets_to own_setup peer_setup now anew (request_on own_setup s fresh q) (asks_on own_setup fresh s q).state peer (Some place))) (sym same)
          (inl (untold_exchange own_setup peer_setup e d net back now next until fresh anew s peer y fit soon h.0 refl x.2 b));
    }))

-- ---- An agent that may ask on the way, while the other one tries it

pub passive_turn : (own_setup peer_setup : Setup) (e d : End) (net back : ℕ → Endpoint → Option Place) (now until next fresh anew : ℕ) (own peer : State)
    → IsFit own_setup → Leads e d net → next ≤ now + seconds 20 → IsPassive e net own_setup now now own → IsPassive d back peer_setup now until peer
    → let after = turn own_setup peer_setup net now fresh anew own peer in Tried e d net back peer_setup now next (now + pace own_setup) until after ⊎ (IsPassive e net own_setup now (now + pace own_setup) after.one × (after.other ≡ peer))
passive_turn own_setup peer_setup e d net back now until next fresh anew own peer fit way soon (inl a) b =
    let s : State = moved own_setup now own in
    let place : Place = record { base = d.base; from = d.to } in
    let W : Agents → Type 0 = λ both. Tried e d net back peer_setup now next (now + pace own_setup) until both ⊎ (IsPassive e net own_setup now (now + pace own_setup) both.one × (both.other ≡ peer)) in
    let x = agent_exact e net (IsUntold e) now now s (moved_agent e net (IsUntold e) (IsUntold e) own_setup now now now own (λ z is. untold_settled e own_setup now z is) a) in
    let y : Pair = x.0 in
    subst W (sym (turn_is own_setup peer_setup net now fresh anew own peer a.clock))
    (turned W own_setup peer_setup e net place now fresh anew s peer y way x.1.there refl x.2
    (λ t agent role. inr (inl (weaker_agent e net (λ z. z ≡ y) (IsUntold e) now now (now + pace own_setup) (now + pace own_setup) t (λ z same. subst (IsUntold e) (sym same) x.1) (omega arith) (omega arith) agent), refl))
    (inl (untold_exchange own_setup peer_setup e d net back now next until fresh anew s peer y fit soon x.1 refl x.2 b)))
passive_turn own_setup peer_setup e d net back now until next fresh anew own peer fit way soon (inr a) b =
    let W : Agents → Type 0 = λ both. Tried e d net back peer_setup now next (now + pace own_setup) until both ⊎ (IsPassive e net own_setup now (now + pace own_setup) both.one × (both.other ≡ peer)) in
    subst W (sym (turn_is own_setup peer_setup net now fresh anew own peer a.clock))
    (unaware_turn W own_setup peer_setup e net net now fresh anew own peer (λ x u. u.unanswered) a (λ t agent role. inr (inr agent, refl)))
