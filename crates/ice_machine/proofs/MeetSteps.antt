-- One agent with a working way: what time, a poll, a check and an answer make of it.
use Rattle.std.proofs.Common.{◌≡◌, ℕ, ◌+◌, ◌<◌, ◌≤◌, inl, inr, ◌⊎◌, Bool, true, false, not, ◌||◌, List, [], ◌∷◌, Option, None, Some, refl, sym, ap, subst, ◌∙◌, map, filter, find, length, arith, ◌%◌, ◌^◌}
use Rattle.std.specs.List.{AllByRecursion, list_any}
use Rattle.std.specs.Option.{option_map_or}
use Rattle.std.specs.Prelude.{◌==◌, nat_lt, nat_le, max}
use Rattle.std.proofs.lemmas.Bool.{cond_both, cond-true, and_from, or_left, lt-ltb, le-leb, eq-eqb, both_ways}
use Rattle.stun_endpoints.specs.declared.endpoints.Endpoint.{Endpoint}
use Rattle.stun_endpoints.specs.Endpoints.{is_endpoint}
use Rattle.ice_machine.specs.Roles.{Role, Controlling, Controlled, other_role, is_controlling}
use Rattle.ice_machine.specs.Agents.{seconds, Base, Pair, Request, Setup, State, pace, is_at}
use Rattle.ice_machine.specs.Events.{Check, Answer, Accepted, Refused, Event, gathers, learns, meets, ends, checks, responds, strays, arrives, sends, polls}
use Rattle.ice_machine.specs.Pairs.{pair_of, with_pair, best}
use Rattle.ice_machine.specs.Checks.{most_urgent, score, request_on, asked}
use Rattle.ice_machine.specs.Steps.{Step, does_nothing, is_awaited, settled, at, changed, changed_first, unnominated, in_role, discovered, heard, hears, is_request, is_symmetric, without_request, fails, succeeds, thaws, retried, answered, responded, asks_on, is_open, polled, step}
use Rattle.ice_machine.specs.Runs.{Timed}
use Rattle.ice_machine.specs.Networks.{Place, Agents, gets_to, goes, turn}
use Rattle.ice_machine.specs.Meetings.{End, disturbed, is_noise, IsNoise, IsUseless, OneAmong, IsAgent}
use Rattle.ice_machine.proofs.AddressesLemmas.{at_base, at_remote, endpoint_is_itself}
use Rattle.ice_machine.proofs.RightLemmas.{IsGood}
use Rattle.ice_machine.proofs.CountsLemmas.{waits_for}
use Rattle.ice_machine.proofs.RolesLemmas.{symmetric_itself}
use Rattle.ice_machine.proofs.MeetLists.{one_map, one_weaken, one_changed, one_elsewhere, one_is_there, either_best}
use Rattle.ice_machine.proofs.MeetPairs.{useless_settled, useless_asked, useless_thawed, useless_unnominated}

-- ---- Time

abbrev pub moved : Setup → (now : ℕ) → State → State
moved setup now s = record s {
  clock = now;
  pairs = map {B = Pair} (settled setup now) s.pairs;
  requests = filter (is_awaited now) s.requests;
}

max_is : (c n : ℕ) → c ≤ n → max c n ≡ n
max_is c n le = omega (arith, le)

pub at_is : (setup : Setup) (now : ℕ) (s : State) → s.clock ≤ now → at setup now s ≡ moved setup now s
at_is setup now s le = ap (λ (c : ℕ). moved setup c s) (max_is s.clock now le)

pub moved_agent : (e : End) (net : ℕ → Endpoint → Option Place) (P R : Pair → Type 0) (setup : Setup) (before now gate : ℕ) (s : State) → ((x : Pair) → P x → R (settled setup now x))
    → IsAgent e net P before gate s → IsAgent e net R now gate (moved setup now s)
moved_agent e net P R setup before now gate s on a = record {
  ready = a.ready;
  clock = omega arith;
  paced = a.paced;
  based = a.based;
  pairs = one_map P R (IsUseless e net) (IsUseless e net) (settled setup now) on (useless_settled e net setup now) s.pairs a.pairs;
}

-- later, and with a lesser claim
pub weaker_agent : (e : End) (net : ℕ → Endpoint → Option Place) (P R : Pair → Type 0) (before now was gate : ℕ) (s : State) → ((x : Pair) → P x → R x) → before ≤ now → was ≤ gate
    → IsAgent e net P before was s → IsAgent e net R now gate s
weaker_agent e net P R before now was gate s on later more a = record {
  ready = a.ready;
  clock = let c = a.clock in omega (arith, c, later);
  paced = let c = a.paced in omega (arith, c, more);
  based = a.based;
  pairs = one_weaken P R (IsUseless e net) on s.pairs a.pairs;
}

-- a property that time doesn't change, until a moment
abbrev pub Lasts : Setup → ℕ → (Pair → Type 0) → Type 0
Lasts setup now P = (c : ℕ) (x : Pair) → c ≤ now → P x → P (settled setup c x)

pub at_agent : (e : End) (net : ℕ → Endpoint → Option Place) (P : Pair → Type 0) (setup : Setup) (t now gate : ℕ) (s : State) → Lasts setup now P → t ≤ now → IsAgent e net P now gate s → IsAgent e net P now gate (at setup t s)
at_agent e net P setup t now gate s lasts le a =
    let c : ℕ = max s.clock t in
    let c_le : max s.clock t ≤ now = let one = a.clock in omega (arith, one, le) in
    weaker_agent e net P P c now gate gate (moved setup c s) (λ x is. is) c_le (omega arith) (moved_agent e net P P setup now c gate s (λ x is. lasts c x c_le is) a)

-- ---- Noise

pub noise_moves : (setup : Setup) (s : State) (now fresh : ℕ) (event : Event) → is_noise event ≡ true → (step setup s now fresh event).state ≡ at setup now s
noise_moves setup s now fresh (gathers b) is = absurd cc
noise_moves setup s now fresh (learns r) is = absurd cc
noise_moves setup s now fresh meets is = absurd cc
noise_moves setup s now fresh ends is = absurd cc
noise_moves setup s now fresh (checks c) is = absurd cc
noise_moves setup s now fresh (responds base from id answer) is = absurd cc
noise_moves setup s now fresh (strays base from id size code) is = refl
noise_moves setup s now fresh (arrives base from bytes) is = refl
noise_moves setup s now fresh (sends component bytes) is = refl
noise_moves setup s now fresh polls is = absurd cc

pub disturbed_agent : (e : End) (net : ℕ → Endpoint → Option Place) (P : Pair → Type 0) (setup : Setup) (now gate : ℕ) (s : State) (ts : List Timed) → Lasts setup now P → AllByRecursion (IsNoise now) ts
    → IsAgent e net P now gate s → IsAgent e net P now gate (disturbed setup s ts)
disturbed_agent e net P setup now gate s [] lasts noise a = a
disturbed_agent e net P setup now gate s (t ∷ ts) lasts noise a =
    let before : State = disturbed setup s ts in
    subst (IsAgent e net P now gate) (sym (noise_moves setup before t.now t.fresh t.event noise.0.0))
    (at_agent e net P setup t.now now gate before lasts noise.0.1 (disturbed_agent e net P setup now gate s ts lasts noise.1 a))

pub disturbed_role : (setup : Setup) (now : ℕ) (s : State) (ts : List Timed) → AllByRecursion (IsNoise now) ts → (disturbed setup s ts).role ≡ s.role
disturbed_role setup now s [] noise = refl
disturbed_role setup now s (t ∷ ts) noise =
    ap (λ (x : State). x.role) (noise_moves setup (disturbed setup s ts) t.now t.fresh t.event noise.0.0) ∙ disturbed_role setup now s ts noise.1

-- ---- A poll

pub same_place : (e : End) (x y : Pair) → is_at e.base e.to x ≡ true → is_at x.base x.remote y ≡ is_at e.base e.to y
same_place e x y there =
    ap (λ (b : ℕ). is_at b x.remote y) (sym (at_base e.base e.to x there)) ∙ ap (λ (a : Endpoint). is_at e.base a y) (sym (at_remote e.base e.to x there))

pub elsewhere_from : (e : End) (x y : Pair) → is_at e.base e.to x ≡ false → is_at e.base e.to y ≡ true → is_at x.base x.remote y ≡ true → ⊥
elsewhere_from e x y away there same =
    let one : is_at e.base e.to x ≡ true = and_from (e.base == x.base) (is_endpoint e.to x.remote)
    (subst (λ (b : ℕ). (e.base == b) ≡ true) (at_base e.base e.to y there ∙ sym (at_base x.base x.remote y same)) (eq-eqb e.base e.base refl))
    (subst (λ (a : Endpoint). is_endpoint e.to a ≡ true) (at_remote e.base e.to y there ∙ sym (at_remote x.base x.remote y same)) (endpoint_is_itself e.to)) in
    both_ways (is_at e.base e.to x) away one

pub is_false : (b : Bool) → (b ≡ true → ⊥) → b ≡ false
is_false true never = absurd (never refl)
is_false false never = refl

-- a request on the way
pub asked_agent : (e : End) (net : ℕ → Endpoint → Option Place) (P R : Pair → Type 0) (setup : Setup) (now gate fresh : ℕ) (s : State) (x : Pair) → s.clock ≡ now → is_at e.base e.to x ≡ true
    → ((y : Pair) → P y → is_at e.base e.to y ≡ true) → ((y : Pair) → P y → R (asked setup s fresh y)) → IsAgent e net P now gate s → IsAgent e net R now (now + pace setup) (asks_on setup fresh s x).state
asked_agent e net P R setup now gate fresh s x clock here there on a = record {
  ready = a.ready;
  clock = a.clock;
  paced = omega (arith, clock);
  based = a.based;
  pairs = one_changed P R (IsUseless e net) (is_at x.base x.remote) (asked setup s fresh) (λ y is. same_place e x y here ∙ there y is) (λ y u. same_place e x y here ∙ u.elsewhere) on s.pairs a.pairs;
}

-- and one elsewhere
pub vain_agent : (e : End) (net : ℕ → Endpoint → Option Place) (P : Pair → Type 0) (setup : Setup) (now gate fresh : ℕ) (s : State) (x : Pair) → s.clock ≡ now → IsUseless e net x
    → ((y : Pair) → P y → is_at e.base e.to y ≡ true) → IsAgent e net P now gate s → IsAgent e net P now (now + pace setup) (asks_on setup fresh s x).state
vain_agent e net P setup now gate fresh s x clock away there a = record {
  ready = a.ready;
  clock = a.clock;
  paced = omega (arith, clock);
  based = a.based;
  pairs = one_elsewhere P (IsUseless e net) (is_at x.base x.remote) (asked setup s fresh) (λ y is. is_false (is_at x.base x.remote y) (elsewhere_from e x y away.elsewhere (there y is))) (λ y u. useless_asked e net setup s fresh y u) s.pairs a.pairs;
}

-- a turn, once time has been seen to
abbrev pub turn_from : Setup → Setup → (ℕ → Endpoint → Option Place) → (now fresh anew : ℕ) → State → State → Agents
turn_from own_setup peer_setup net now fresh anew s peer =
    goes own_setup peer_setup net now anew (polled own_setup fresh s).state peer (polled own_setup fresh s).output

-- it asks on the best pair, if any
abbrev turn_on : Setup → Setup → (ℕ → Endpoint → Option Place) → (now fresh anew : ℕ) → State → State → Option Pair → Agents
turn_on own_setup peer_setup net now fresh anew s peer o =
    goes own_setup peer_setup net now anew (option_map_or (asks_on own_setup fresh s) o (does_nothing s)).state peer (option_map_or (asks_on own_setup fresh s) o (does_nothing s)).output

-- each outcome of a turn
pub record Turns (R : Agents → Type 0) (own_setup peer_setup : Setup) (e : End) (net : ℕ → Endpoint → Option Place) (place : Place) (P : Pair → Type 0) (now fresh anew : ℕ) (s peer : State) : Type 0 where
  pub idle : best (score own_setup s) s.pairs ≡ None → R (record { one = s; other = peer })
  pub vain : (x : Pair) → IsUseless e net x → 0 < score own_setup s x → best (score own_setup s) s.pairs ≡ Some x → R (record { one = (asks_on own_setup fresh s x).state; other = peer })
  pub good : (x : Pair) → P x → 0 < score own_setup s x → best (score own_setup s) s.pairs ≡ Some x
      → R (gets_to own_setup peer_setup now anew (request_on own_setup s fresh x) (asks_on own_setup fresh s x).state peer (Some place))

turns_by : (R : Agents → Type 0) (own_setup peer_setup : Setup) (e : End) (net : ℕ → Endpoint → Option Place) (place : Place) (P : Pair → Type 0) (now fresh anew : ℕ) (s peer : State) (o : Option Pair)
    → net e.base e.to ≡ Some place → ((y : Pair) → P y → is_at e.base e.to y ≡ true) → best (score own_setup s) s.pairs ≡ o → IsGood (λ y. P y ⊎ IsUseless e net y) (score own_setup s) o
    → Turns R own_setup peer_setup e net place P now fresh anew s peer → R (turn_on own_setup peer_setup net now fresh anew s peer o)
turns_by R own_setup peer_setup e net place P now fresh anew s peer None way there same good t = t.idle same
turns_by R own_setup peer_setup e net place P now fresh anew s peer (Some x) way there same (inl p, some) t =
    subst (λ (o : Option Place). R (gets_to own_setup peer_setup now anew (request_on own_setup s fresh x) (asks_on own_setup fresh s x).state peer o))
    (sym (ap (λ (b : ℕ). net b x.remote) (sym (at_base e.base e.to x (there x p))) ∙ ap (λ (a : Endpoint). net e.base a) (sym (at_remote e.base e.to x (there x p))) ∙ way)) (t.good x p some same)
turns_by R own_setup peer_setup e net place P now fresh anew s peer (Some x) way there same (inr u, some) t =
    subst (λ (o : Option Place). R (gets_to own_setup peer_setup now anew (request_on own_setup s fresh x) (asks_on own_setup fresh s x).state peer o)) (sym u.unanswered) (t.vain x u some same)

pub turn_goes : (R : Agents → Type 0) (own_setup peer_setup : Setup) (e : End) (net : ℕ → Endpoint → Option Place) (place : Place) (P : Pair → Type 0) (now fresh anew : ℕ) (s peer : State)
    → net e.base e.to ≡ Some place → ((y : Pair) → P y → is_at e.base e.to y ≡ true) → s.clock ≡ now → IsAgent e net P now now s
    → Turns R own_setup peer_setup e net place P now fresh anew s peer → R (turn_from own_setup peer_setup net now fresh anew s peer)
turn_goes R own_setup peer_setup e net place P now fresh anew s peer way there clock a t =
    let free : is_open s ≡ true = and_from s.ready (nat_le s.next_request_at s.clock) a.ready (le-leb s.next_request_at s.clock (let p = a.paced in omega (arith, p, clock))) in
    subst (λ (x : Step). R (goes own_setup peer_setup net now anew x.state peer x.output)) (sym (cond-true (is_open s) (option_map_or (asks_on own_setup fresh s) (most_urgent own_setup s) (does_nothing s)) (does_nothing s) free))
    (turns_by R own_setup peer_setup e net place P now fresh anew s peer (most_urgent own_setup s) way there refl (either_best P (IsUseless e net) (score own_setup s) s.pairs a.pairs) t)

pub turn_is : (own_setup peer_setup : Setup) (net : ℕ → Endpoint → Option Place) (now fresh anew : ℕ) (own peer : State) → own.clock ≤ now
    → turn own_setup peer_setup net now fresh anew own peer ≡ turn_from own_setup peer_setup net now fresh anew (moved own_setup now own) peer
turn_is own_setup peer_setup net now fresh anew own peer le = ap (λ (s : State). turn_from own_setup peer_setup net now fresh anew s peer) (at_is own_setup now own le)

-- ---- A check that is received

pub in_role_agent : (e : End) (net : ℕ → Endpoint → Option Place) (P : Pair → Type 0) (role : Role) (now gate : ℕ) (s : State) → ((x : Pair) → P x → P (unnominated x)) → IsAgent e net P now gate s → IsAgent e net P now gate (in_role role s)
in_role_agent e net P Controlling now gate s on a = cond_both (is_controlling s.role) _ _ (IsAgent e net P now gate) (λ _. a)
    (λ _. record { ready = a.ready; clock = a.clock; paced = a.paced; based = a.based; pairs = one_map P P (IsUseless e net) (IsUseless e net) unnominated on (useless_unnominated e net) s.pairs a.pairs })
in_role_agent e net P Controlled now gate s on a = cond_both (is_controlling s.role) _ _ (IsAgent e net P now gate)
    (λ _. record { ready = a.ready; clock = a.clock; paced = a.paced; based = a.based; pairs = one_map P P (IsUseless e net) (IsUseless e net) unnominated on (useless_unnominated e net) s.pairs a.pairs })
    (λ _. a)

with_known : (most : ℕ) (p : Pair) (ps : List Pair) → list_any (is_at p.base p.remote) ps ≡ true → with_pair most p ps ≡ ps
with_known most p ps is = cond-true (list_any (is_at p.base p.remote) ps || not (nat_lt (length ps) most)) ps (p ∷ ps) (or_left (list_any (is_at p.base p.remote) ps) (not (nat_lt (length ps) most)) is)

pub hears_agent : (e : End) (net : ℕ → Endpoint → Option Place) (P R : Pair → Type 0) (setup : Setup) (b : Base) (c : Check) (now gate : ℕ) (s : State) → b.number ≡ e.base → c.base ≡ e.base → c.from ≡ e.to
    → ((y : Pair) → P y → is_at e.base e.to y ≡ true) → ((y : Pair) → P y → R (heard s.role c y)) → IsAgent e net P now gate s → IsAgent e net R now gate (hears setup b c s)
hears_agent e net P R setup b c now gate s number base from there on a =
    let at_c : (y : Pair) → is_at c.base c.from y ≡ is_at e.base e.to y = λ y. ap (λ (n : ℕ). is_at n c.from y) base ∙ ap (λ (x : Endpoint). is_at e.base x y) from in
    let at_b : (y : Pair) → is_at b.number c.from y ≡ is_at e.base e.to y = λ y. ap (λ (n : ℕ). is_at n c.from y) number ∙ ap (λ (x : Endpoint). is_at e.base x y) from in
    let known : with_pair setup.most_pairs (pair_of b (discovered b c)) s.pairs ≡ s.pairs = with_known setup.most_pairs (pair_of b (discovered b c)) s.pairs (one_is_there P (IsUseless e net) (is_at b.number c.from) (λ y is. at_b y ∙ there y is) s.pairs a.pairs) in
    record {
      ready = a.ready;
      clock = a.clock;
      paced = a.paced;
      based = a.based;
      pairs = subst (λ (ps : List Pair). OneAmong R (IsUseless e net) (changed_first (is_at c.base c.from) (heard s.role c) ps)) (sym known)
          (one_changed P R (IsUseless e net) (is_at c.base c.from) (heard s.role c) (λ y is. at_c y ∙ there y is) (λ y u. at_c y ∙ u.elsewhere) on s.pairs a.pairs);
    }

-- ---- An answer that is received

-- the state at it, and the request no longer waited for
abbrev pub awaiting : Setup → (now fresh : ℕ) → State → Pair → State
awaiting setup now fresh s x = without_request fresh (moved setup now (asks_on setup fresh s x).state)

pub answer_comes : (setup : Setup) (now fresh anew : ℕ) (s : State) (x : Pair) (answer : Answer) → s.clock ≡ now → 1 ≤ setup.most_requests
    → (step setup (asks_on setup fresh s x).state now anew (responds x.base x.remote fresh answer)).state ≡ answered anew (request_on setup s fresh x) answer (awaiting setup now fresh s x)
answer_comes setup now fresh anew s x answer clock room =
    let r : Request = request_on setup s fresh x in
    let sent : State = (asks_on setup fresh s x).state in
    let t : State = moved setup now sent in
    let found : find (is_request fresh) t.requests ≡ Some r = waits_for setup.most_requests now r s.requests room (lt-ltb now (s.clock + seconds 30) (omega (arith, clock))) in
    ap (λ (y : State). (option_map_or (responded anew x.base x.remote answer y) (find (is_request fresh) y.requests) (does_nothing y)).state) (at_is setup now sent (omega (arith, clock)))
    ∙ ap (λ (o : Option Request). (option_map_or (responded anew x.base x.remote answer t) o (does_nothing t)).state) found
    ∙ cond-true (is_symmetric x.base x.remote r) (answered anew r answer (without_request fresh t)) (changed fails x.base x.remote (without_request fresh t)) (symmetric_itself r)

pub accepted_agent : (e : End) (net : ℕ → Endpoint → Option Place) (P R : Pair → Type 0) (now gate anew : ℕ) (s : State) (r : Request) (x : Pair) → r.base ≡ x.base → r.to ≡ x.remote → is_at e.base e.to x ≡ true
    → ((y : Pair) → P y → is_at e.base e.to y ≡ true) → ((y : Pair) → P y → R (succeeds s.role s.clock r y)) → ((o : Option Pair) (y : Pair) → R y → R (thaws o y)) → IsAgent e net P now gate s → IsAgent e net R now gate (answered anew r Accepted s)
accepted_agent e net P R now gate anew s r x base to here there on melts a =
    let at_r : (y : Pair) → is_at r.base r.to y ≡ is_at e.base e.to y = λ y. ap (λ (n : ℕ). is_at n r.to y) base ∙ ap (λ (z : Endpoint). is_at x.base z y) to ∙ same_place e x y here in
    let after : State = changed (succeeds s.role s.clock r) r.base r.to s in
    let o : Option Pair = find (is_at r.base r.to) after.pairs in
    record {
      ready = a.ready;
      clock = a.clock;
      paced = a.paced;
      based = a.based;
      pairs = one_map R R (IsUseless e net) (IsUseless e net) (thaws o) (melts o) (useless_thawed e net o) after.pairs
          (one_changed P R (IsUseless e net) (is_at r.base r.to) (succeeds s.role s.clock r) (λ y is. at_r y ∙ there y is) (λ y u. at_r y ∙ u.elsewhere) on s.pairs a.pairs);
    }

pub refused_agent : (e : End) (net : ℕ → Endpoint → Option Place) (P R : Pair → Type 0) (now gate anew : ℕ) (s : State) (r : Request) (x : Pair) → r.base ≡ x.base → r.to ≡ x.remote → is_at e.base e.to x ≡ true
    → ((y : Pair) → P y → is_at e.base e.to y ≡ true) → ((y : Pair) → P y → P (unnominated y)) → ((y : Pair) → P y → R (retried y)) → IsAgent e net P now gate s → IsAgent e net R now gate (answered anew r (Refused 487) s)
refused_agent e net P R now gate anew s r x base to here there plain on a =
    let at_r : (y : Pair) → is_at r.base r.to y ≡ is_at e.base e.to y = λ y. ap (λ (n : ℕ). is_at n r.to y) base ∙ ap (λ (z : Endpoint). is_at x.base z y) to ∙ same_place e x y here in
    let anew_state : State = record s { tiebreaker = anew % 2 ^ 64 } in
    let before : IsAgent e net P now gate anew_state = record { ready = a.ready; clock = a.clock; paced = a.paced; based = a.based; pairs = a.pairs } in
    let b : IsAgent e net P now gate (in_role (other_role r.role) anew_state) = in_role_agent e net P (other_role r.role) now gate anew_state plain before in
    record {
      ready = b.ready;
      clock = b.clock;
      paced = b.paced;
      based = b.based;
      pairs = one_changed P R (IsUseless e net) (is_at r.base r.to) retried (λ y is. at_r y ∙ there y is) (λ y u. at_r y ∙ u.elsewhere) on (in_role (other_role r.role) anew_state).pairs b.pairs;
    }
