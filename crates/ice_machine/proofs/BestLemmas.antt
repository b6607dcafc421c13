-- A controlling agent nominates the best valid pair.
use Rattle.std.proofs.Common.{◌≡◌, ℕ, ◌+◌, ◌^◌, ◌<◌, ◌≤◌, inl, inr, Bool, true, false, not, ◌||◌, ◌&&◌, List, [], ◌∷◌, Option, None, Some, refl, sym, ap, subst, ◌∙◌, find, arith}
use Rattle.std.specs.List.{list_any}
use Rattle.std.specs.Option.{option_map_or}
use Rattle.std.specs.Prelude.{◌==◌, nat_lt, nat_le}
use Rattle.std.proofs.lemmas.Bool.{cond_both, and_from, and_parts, cases_lt, or_parts, or_cases, or_left, or_right, lt-ltb, ltb-true}
use Rattle.stun_endpoints.specs.declared.endpoints.Endpoint.{Endpoint}
use Rattle.ice_machine.specs.Roles.{is_controlling}
use Rattle.ice_machine.specs.Agents.{Pair, Request, Setup, State, is_at, is_succeeded, is_in_progress, is_frozen, is_lost, pair_priority}
use Rattle.ice_machine.specs.Bounds.{AreDistinct}
use Rattle.ice_machine.specs.Events.{asks, polls}
use Rattle.ice_machine.specs.Checks.{is_under_way, is_fresh, is_settled_in, is_hoped_for, is_long_valid, is_ripe, is_choice, is_nominating, urgency, precedence, score, most_urgent, request_on}
use Rattle.ice_machine.specs.Lasting.{IsNaming, IsBestValid}
use Rattle.ice_machine.specs.Meetings.{End}
use Rattle.ice_machine.specs.Steps.{Step, at, step, does_nothing, asks_on, is_open}
use Rattle.ice_machine.specs.Works.{Precedes}
use Rattle.ice_machine.proofs.BusyLemmas.{NoScore, best_none, precedes_by}
use Rattle.ice_machine.proofs.ListsLemmas.{each_map}
use Rattle.ice_machine.proofs.MeetPairs.{valid_unlost}
use Rattle.ice_machine.proofs.MeetSteps.{is_false}
use Rattle.ice_machine.proofs.PlacesLemmas.{neither, at_distinct}
use Rattle.ice_machine.proofs.RightLemmas.{IsGood, best_good}
use Rattle.ice_machine.proofs.SilenceLemmas.{IsFirst, all_first, some_urgency}

-- ---- A better valid pair may be picked too

not_false : (b : Bool) → not b ≡ true → b ≡ false
not_false true is = absurd cc
not_false false is = refl

-- what a better pair waits for, a lesser one waits for
waits_less : (s : State) (p q x : Pair) → p.component ≡ q.component → pair_priority s.role p < pair_priority s.role q → is_hoped_for s p x ≡ false → is_hoped_for s q x ≡ false
waits_less s p q x same less isnt = is_false (is_hoped_for s q x) (λ is.
    let place = and_parts (q.component == x.component) (nat_lt (pair_priority s.role q) (pair_priority s.role x) && (is_frozen x.state || is_under_way x.state)) is in
    let rank = and_parts (nat_lt (pair_priority s.role q) (pair_priority s.role x)) (is_frozen x.state || is_under_way x.state) place.1 in
    neither ⊥ (is_hoped_for s p x)
    (and_from (p.component == x.component) (nat_lt (pair_priority s.role p) (pair_priority s.role x) && (is_frozen x.state || is_under_way x.state)) (ap (λ (n : ℕ). n == x.component) same ∙ place.0)
    (and_from (nat_lt (pair_priority s.role p) (pair_priority s.role x)) (is_frozen x.state || is_under_way x.state)
    (lt-ltb (pair_priority s.role p) (pair_priority s.role x) (let more = ltb-true (pair_priority s.role q) (pair_priority s.role x) rank.0 in omega (arith, more, less))) rank.1))
    isnt)

none_waits : (s : State) (p q : Pair) (ps : List Pair) → p.component ≡ q.component → pair_priority s.role p < pair_priority s.role q → list_any (is_hoped_for s p) ps ≡ false → list_any (is_hoped_for s q) ps ≡ false
none_waits s p q [] same less isnt = refl
none_waits s p q (x ∷ xs) same less isnt =
    let parts = or_parts (is_hoped_for s p x) (list_any (is_hoped_for s p) xs) isnt in
    ap (λ (b : Bool). b || list_any (is_hoped_for s q) xs) (waits_less s p q x same less parts.0) ∙ none_waits s p q xs same less parts.1

ripe_too : (setup : Setup) (s : State) (p q : Pair) → p.component ≡ q.component → pair_priority s.role p < pair_priority s.role q → is_ripe setup s p ≡ true → is_ripe setup s q ≡ true
ripe_too setup s p q same less ripe = elim (or_cases (not (list_any (is_hoped_for s p) s.pairs)) (list_any (is_long_valid setup s p) s.pairs) ripe) as (λ x. is_ripe setup s q ≡ true) [
  | inl none ↦ or_left (not (list_any (is_hoped_for s q) s.pairs)) (list_any (is_long_valid setup s q) s.pairs) (ap not (none_waits s p q s.pairs same less (not_false (list_any (is_hoped_for s p) s.pairs) none)))
  | inr long ↦ or_right (not (list_any (is_hoped_for s q) s.pairs)) (list_any (is_long_valid setup s q) s.pairs)
      (subst (λ (n : ℕ). list_any (λ z. (n == z.component) && (is_succeeded z.state && nat_le (z.succeeded_at + setup.patience) s.clock)) s.pairs ≡ true) same long)
]

choice_too : (setup : Setup) (s : State) (p q : Pair) → p.component ≡ q.component → pair_priority s.role p < pair_priority s.role q → is_succeeded q.state ≡ true → is_choice setup s p ≡ true → is_choice setup s q ≡ true
choice_too setup s p q same less valid choice =
    let one = and_parts (is_controlling s.role) (is_succeeded p.state && (not (list_any (is_settled_in p) s.pairs) && is_ripe setup s p)) choice in
    let two = and_parts (is_succeeded p.state) (not (list_any (is_settled_in p) s.pairs) && is_ripe setup s p) one.1 in
    let three = and_parts (not (list_any (is_settled_in p) s.pairs)) (is_ripe setup s p) two.1 in
    and_from (is_controlling s.role) (is_succeeded q.state && (not (list_any (is_settled_in q) s.pairs) && is_ripe setup s q)) one.0
    (and_from (is_succeeded q.state) (not (list_any (is_settled_in q) s.pairs) && is_ripe setup s q) valid
    (and_from (not (list_any (is_settled_in q) s.pairs)) (is_ripe setup s q)
    (subst (λ (n : ℕ). not (list_any (λ z. (n == z.component) && (z.chosen || z.nominated)) s.pairs) ≡ true) same three.0)
    (ripe_too setup s p q same less three.1)))

-- ---- And comes first

choice_four : (setup : Setup) (s : State) (p : Pair) → is_lost p.state ≡ false → is_choice setup s p ≡ true → 4 ≤ urgency setup s p
choice_four setup s p unlost choice = cond_both (is_lost p.state) _ _ (λ n. 4 ≤ n) (λ yes. neither (4 ≤ 0) (is_lost p.state) yes unlost)
    (λ _. cond_both p.triggered _ _ (λ n. 4 ≤ n) (λ _. omega arith)
    (λ _. cond_both (is_choice setup s p) _ _ (λ n. 4 ≤ n) (λ _. omega arith) (λ isnt. neither _ (is_choice setup s p) choice isnt)))

plain_four : (setup : Setup) (s : State) (p : Pair) → p.triggered ≡ false → urgency setup s p ≤ 4
plain_four setup s p untriggered = cond_both (is_lost p.state) _ _ (λ n. n ≤ 4) (λ _. omega arith)
    (λ _. cond_both p.triggered _ _ (λ n. n ≤ 4) (λ yes. neither (5 ≤ 4) p.triggered yes untriggered)
    (λ _. cond_both (is_choice setup s p) _ _ (λ n. n ≤ 4) (λ _. omega arith)
    (λ _. cond_both (is_succeeded p.state && nat_le p.due s.clock) _ _ (λ n. n ≤ 4) (λ _. omega arith)
    (λ _. cond_both (is_fresh s p) _ _ (λ n. n ≤ 4) (λ _. omega arith)
    (λ _. cond_both (is_in_progress p.state && nat_le p.due s.clock) _ _ (λ n. n ≤ 4) (λ _. omega arith) (λ _. omega arith))))))

outdone_by : (setup : Setup) (s : State) (p q : Pair) → p.triggered ≡ false → is_choice setup s p ≡ true → score setup s q ≤ score setup s p → 0 < urgency setup s p
    → p.component ≡ q.component → is_succeeded q.state ≡ true → pair_priority s.role q < 2 ^ 64 → pair_priority s.role q ≤ pair_priority s.role p
outdone_by setup s p q untriggered choice le some same valid small = elim (cases_lt (pair_priority s.role p) (pair_priority s.role q)) as (λ x. pair_priority s.role q ≤ pair_priority s.role p) [
  | inl less ↦
      let first : Precedes setup s p q = precedes_by setup s p q some le in
      let p_valid = (and_parts (is_succeeded p.state) _ (and_parts (is_controlling s.role) _ choice).1).0 in
      let at_p = choice_four setup s p (valid_unlost p.state p_valid) choice in
      let at_q = choice_four setup s q (valid_unlost q.state valid) (choice_too setup s p q same less valid choice) in
      let most = plain_four setup s p untriggered in
      let urgent = first.urgent in
      first.priority (λ is. absurd (omega (arith, is, at_p))) (omega (arith, at_p, at_q, most, urgent)) small
  | inr isnt ↦ isnt
]

-- ---- A poll

same_request : (a b : Request) → asks a ≡ asks b → a ≡ b
same_request a b is = cc

same_pair : (a b : Pair) → Some a ≡ Some b → a ≡ b
same_pair a b is = cc

-- the pair that is asked is the most urgent one
best_by : (setup : Setup) (fresh : ℕ) (s : State) (p : Pair) (o : Option Pair) → IsGood (IsFirst s.pairs) (score setup s) o → NoScore (score setup s) s.pairs o
    → find (is_at p.base p.remote) s.pairs ≡ Some p → (option_map_or (asks_on setup fresh s) o (does_nothing s)).output ≡ asks (request_on setup s fresh p) → is_choice setup s p ≡ true → p.triggered ≡ false → IsBestValid s p
best_by setup fresh s p None good top known asked choice untriggered = absurd cc
best_by setup fresh s p (Some r) good top known asked choice untriggered =
    let request : request_on setup s fresh r ≡ request_on setup s fresh p = same_request (request_on setup s fresh r) (request_on setup s fresh p) asked in
    let base : r.base ≡ p.base = ap (λ (x : Request). x.base) request in
    let to : r.remote ≡ p.remote = ap (λ (x : Request). x.to) request in
    let same : r ≡ p = same_pair r p (sym good.0 ∙ ap (λ (n : ℕ). find (is_at n r.remote) s.pairs) base ∙ ap (λ (e : Endpoint). find (is_at p.base e) s.pairs) to ∙ known) in
    subst (λ (z : Pair). z.triggered ≡ false → is_choice setup s z ≡ true → IsBestValid s z) same
    (λ plain. λ is. each_map (λ q. score setup s q ≤ score setup s r) (λ q. r.component ≡ q.component → is_succeeded q.state ≡ true → pair_priority s.role q < 2 ^ 64 → pair_priority s.role q ≤ pair_priority s.role r)
    (λ q le. outdone_by setup s r q plain is le (some_urgency (urgency setup s r) (precedence s (urgency setup s r) r) good.1)) s.pairs top)
    untriggered choice

newly_chosen : (setup : Setup) (s : State) (p : Pair) → is_nominating setup s p ≡ true → p.chosen ≡ false → is_choice setup s p ≡ true
newly_chosen setup s p nominates unchosen = sym (ap (λ (b : Bool). b || is_choice setup s p) unchosen)
    ∙ (and_parts (is_succeeded p.state) (p.chosen || is_choice setup s p) (and_parts (is_controlling s.role) (is_succeeded p.state && (p.chosen || is_choice setup s p)) nominates).1).1

pub names_best : (setup : Setup) (s : State) (e : End) (now fresh : ℕ) → AreDistinct s.pairs → (n : IsNaming setup e fresh (at setup now s) (step setup s now fresh polls).output)
    → n.pair.chosen ≡ false → n.pair.triggered ≡ false → IsBestValid (at setup now s) n.pair
names_best setup s e now fresh distinct n unchosen untriggered =
    let state : State = at setup now s in
    let choice = newly_chosen setup state n.pair n.nominates unchosen in
    cond_both (is_open state) (option_map_or (asks_on setup fresh state) (most_urgent setup state) (does_nothing state)) (does_nothing state)
    (λ (t : Step). t.output ≡ asks (request_on setup state fresh n.pair) → IsBestValid state n.pair)
    (λ _. λ asked. best_by setup fresh state n.pair (most_urgent setup state) (best_good (IsFirst state.pairs) (score setup state) state.pairs (all_first state.pairs (at_distinct setup now s distinct)))
    (best_none (score setup state) state.pairs) n.known asked choice untriggered)
    (λ _. λ asked. absurd cc) n.asked
