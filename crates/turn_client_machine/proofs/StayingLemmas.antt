-- A peer stays, and attempts are few.
use Rattle.std.proofs.Common.{◌≡◌, ℕ, ◌+◌, ◌*◌, ◌-◌, ◌≤◌, ◌<◌, Bool, true, false, not, ◌&&◌, List, [], ◌∷◌, Option, None, Some, refl, sym, ap, subst, ◌∙◌, arith, find, ltb-true, length, zero-le}
use Rattle.std.specs.List.{AllByRecursion, list_any}
use Rattle.std.specs.Option.{option_map_or}
use Rattle.std.specs.Prelude.{◌==◌, nat_lt}
use Rattle.std.proofs.lemmas.Bool.{cond_both, and_parts, true≢false, and_from}
use Rattle.stun_endpoints.proofs.AddressesLemmas.{endpoint_same, endpoint_is_itself}
use Rattle.turn_client_machine.proofs.ListsLemmas.{Within, each_changed}
use Rattle.turn_client_machine.specs.Clients.{Endpoint, is_endpoint, Setup, Kind, Allocate, Refresh, Delete, Permit, Bind, Request, Pending, End, Closed, Silent, Rejected, Moved, Useless, Peer, State, is_allocated, is_active, IntegrityViolated, is_peer, is_dropped}
use Rattle.turn_client_machine.specs.Events.{Event, allocates, permits, binds, drops, sends, closes, responds, gives, gives_on, strays, polls, Refused, Challenged, Violated, Answer}
use Rattle.turn_client_machine.specs.Tasks.{is_due, is_expired, turned, may_retry}
use Rattle.turn_client_machine.specs.Responses.{asks_instead, changed_first, granted_by, given_up, awaits_of}
use Rattle.turn_client_machine.specs.Steps.{Step, keeps, at, wanting, kind_of, turned_of, turns_peer, polled, happens, step, is_next, is_free, own_task, takes_along, is_fit, most_others, turned_first}
use Rattle.turn_client_machine.specs.Lasting.{is_refusal, IsOn, IsOpen, gives_up}
use Rattle.turn_client_machine.specs.Attempts.{Attempt, begun_attempt, next_at, next_by, next_attempt, AreNext}
use Rattle.turn_client_machine.proofs.Keeping.{PeerChanges, happens_each}
use Rattle.turn_client_machine.proofs.NumbersLemmas.{joined_keeps}
use Rattle.turn_client_machine.proofs.JoiningLemmas.{fit_parts}

granted_on : (address : Endpoint) (r : Request) (kind : Kind) (p : Peer) → IsOn address p → IsOn address (granted_by r kind p)
granted_on address r Allocate p on = on
granted_on address r Refresh p on = on
granted_on address r Delete p on = on
granted_on address r (Permit peer) p on = on
granted_on address r (Bind number peer) p on = on

granted_on_of : (address : Endpoint) (p : Peer) (o : Option Pending) → IsOn address p → IsOn address (option_map_or (λ (q : Pending). granted_by q.request q.request.kind p) o p)
granted_on_of address p None on = on
granted_on_of address p (Some q) on = granted_on address q.request q.request.kind p on

wanting_on : (address : Endpoint) (clock : ℕ) (p : Peer) → IsOn address p → IsOn address (wanting clock p)
wanting_on address clock p on = cond_both p.over _ _ (IsOn address) (λ _ _. refl) (λ _. cond_both p.wants _ _ (IsOn address) (λ _. on) (λ no. on))

pub same_endpoint : (a b c : Endpoint) → is_endpoint a b ≡ true → is_endpoint c b ≡ true → is_endpoint a c ≡ true
same_endpoint a b c one two = subst (λ (e : Endpoint). is_endpoint a e ≡ true) (endpoint_same a b one ∙ sym (endpoint_same c b two)) (endpoint_is_itself a)

-- what isn't a refusal of the peer doesn't give it up
pub refusing : {R : Type 0} (setup : Setup) (address : Endpoint) (state : State) (event : Event) (from : Endpoint) (id : ℕ) (authentic : Bool) (answer : Answer) (p : Peer) → event ≡ responds from id authentic answer → is_refusal setup address state event ≡ false
    → awaits_of id p ≡ true → Within state.peers p → is_peer address p ≡ true → gives_up setup state authentic answer p ≡ true → R
refusing setup address state event from id authentic answer p event_is harmless awaited found here bad =
    let good : Peer → Bool = λ q. is_peer address q && (awaits_of id q && gives_up setup state authentic answer q) in
    let both = and_from (is_peer address p) (awaits_of id p && gives_up setup state authentic answer p) here (and_from (awaits_of id p) (gives_up setup state authentic answer p) awaited bad) in
    let any : list_any good state.peers ≡ true = found good both in
    absurd (true≢false (sym any ∙ (ap (is_refusal setup address state) (sym event_is) ∙ harmless)))

on_changes : (address : Endpoint) (setup : Setup) (fresh : ℕ) (state : State) (event : Event) → is_refusal setup address state event ≡ false → (event ≡ polls → ⊥) → PeerChanges (IsOn address) setup fresh state event
on_changes address setup fresh state event harmless timeless = record {
  new = λ wants other peers is _ _. refl;
  replaces = λ wants other p _ _ _ _ _. refl;
  drops_it = λ p other is named on here. absurd (true≢false (sym (same_endpoint address p.address other here (and_parts (is_peer other p) (not (is_dropped p)) named).0) ∙ (ap (is_refusal setup address state) (sym is) ∙ harmless)));
  reopens = λ p q is kind on here. ap (λ (b : Bool). b && is_dropped p) (on here);
  restarts = λ p _ on _. refl;
  wants = λ p other _ _. wanting_on address state.clock p;
  grants = λ p id genuine is on. granted_on_of address p p.task.pending on;
  turns_down = λ p id code genuine awaited found on. cond_both (asks_instead code p) _ _ (IsOn address) (λ _. on)
      (λ isnt here. refusing setup address state event genuine.from id true (Refused code) p genuine.event_is harmless awaited found here (ap not isnt));
  challenges_it = λ p is awaited found on. cond_both (may_retry setup state.challenge is.code p.task) _ _ (IsOn address) (λ _. on)
      (λ isnt here. refusing setup address state event is.from is.id is.authentic (Challenged is.code is.challenge) p is.event_is harmless awaited found here (ap not isnt));
  violates_it = λ p is awaited found on. cond_both setup.is_reliable _ _ (IsOn address)
      (λ reliable here. refusing setup address state event is.from is.id is.authentic Violated p is.event_is harmless awaited found here reliable) (λ _. on);
  turns_it = λ p along is _ out on. absurd (timeless is);
}

-- ---- Polls

changed_on : (along : Bool) (address : Endpoint) (setup : Setup) (clock fresh : ℕ) (challenge : Option ℕ) (test : Peer → Bool) (ps : List Peer) → AllByRecursion (IsOpen address clock) ps → AllByRecursion (IsOn address) ps
    → AllByRecursion (IsOn address) (changed_first test (turned_of along setup clock fresh challenge) ps)
changed_on along address setup clock fresh challenge test [] opens on = tt
changed_on along address setup clock fresh challenge test (p ∷ ps) opens on =
    cond_both (test p) _ _ (AllByRecursion (IsOn address))
    (λ _. (
      cond_both (is_expired clock p.task) (given_up 0 p) (record p { task = turned setup clock fresh (kind_of p) challenge (own_task p); shared = along }) (IsOn address)
          (λ late here. absurd (true≢false (sym late ∙ opens.0 here))) (λ _. on.0),
      on.1,
    ))
    (λ _. (on.0, changed_on along address setup clock fresh challenge test ps opens.1 on.1))

found_on : (address : Endpoint) (setup : Setup) (fresh : ℕ) (state : State) (o : Option Peer) → AllByRecursion (IsOpen address state.clock) state.peers → AllByRecursion (IsOn address) state.peers
    → AllByRecursion (IsOn address) (option_map_or (turns_peer setup fresh (is_free state.peers) state) o (keeps state)).state.peers
found_on address setup fresh state None opens on = on
found_on address setup fresh state (Some p) opens on =
    let along = takes_along setup state.clock state.peers p in
    joined_keeps (AllByRecursion (IsOn address)) setup state.clock fresh state.challenge
    (λ ps each. each_changed (IsOn address) (is_fit state.clock) (turned_of true setup state.clock fresh state.challenge) ps
    (λ q fit _ one. cond_both (is_expired state.clock q.task) (given_up 0 q) (record q { task = turned setup state.clock fresh (kind_of q) state.challenge (own_task q); shared = true }) (IsOn address)
    (λ late. absurd (true≢false (sym late ∙ (fit_parts state.clock q fit).early))) (λ _. one)) each)
    (most_others setup along) (turned_first setup fresh (is_free state.peers) along state)
    (changed_on along address setup state.clock fresh state.challenge (is_next (is_free state.peers) state.clock) state.peers opens on)

polled_on : (address : Endpoint) (setup : Setup) (fresh : ℕ) (state : State) → AllByRecursion (IsOpen address state.clock) state.peers → AllByRecursion (IsOn address) state.peers → AllByRecursion (IsOn address) (polled setup fresh state).state.peers
polled_on address setup fresh state opens on =
    cond_both (is_active state.phase && is_due state.clock state.task) _ _ (λ (s : Step). AllByRecursion (IsOn address) s.state.peers)
    (λ _. cond_both (is_expired state.clock state.task) _ _ (λ (s : Step). AllByRecursion (IsOn address) s.state.peers) (λ _. on) (λ _. on))
    (λ _. cond_both (is_allocated state.phase) _ _ (λ (s : Step). AllByRecursion (IsOn address) s.state.peers)
    (λ _. found_on address setup fresh state (find (is_next (is_free state.peers) state.clock) state.peers) opens on) (λ _. on))

abbrev is_poll : Event → Bool
is_poll allocates = false
is_poll (permits peer) = false
is_poll (binds peer) = false
is_poll (drops peer) = false
is_poll (sends peer bytes) = false
is_poll closes = false
is_poll (responds from id authentic answer) = false
is_poll (gives from peer bytes) = false
is_poll (gives_on from number bytes) = false
is_poll (strays from) = false
is_poll polls = true

no_poll : (event : Event) → is_poll event ≡ false → event ≡ polls → ⊥
no_poll event isnt is = true≢false (sym (ap is_poll is) ∙ isnt)

other_on : (address : Endpoint) (setup : Setup) (fresh : ℕ) (state : State) (event : Event) → is_refusal setup address state event ≡ false → is_poll event ≡ false → AllByRecursion (IsOn address) state.peers → AllByRecursion (IsOn address) (happens setup fresh state event).state.peers
other_on address setup fresh state event harmless isnt on = happens_each (IsOn address) setup fresh state event (on_changes address setup fresh state event harmless (no_poll event isnt)) on

pub stays_on : (setup : Setup) (state : State) (now fresh : ℕ) (event : Event) (address : Endpoint) → is_refusal setup address (at now state) event ≡ false → (event ≡ polls → AllByRecursion (IsOpen address (at now state).clock) state.peers) → AllByRecursion (IsOn address) state.peers
    → AllByRecursion (IsOn address) (step setup state now fresh event).state.peers
stays_on setup state now fresh allocates address harmless opens on = other_on address setup fresh (at now state) allocates harmless refl on
stays_on setup state now fresh (permits peer) address harmless opens on = other_on address setup fresh (at now state) (permits peer) harmless refl on
stays_on setup state now fresh (binds peer) address harmless opens on = other_on address setup fresh (at now state) (binds peer) harmless refl on
stays_on setup state now fresh (drops peer) address harmless opens on = other_on address setup fresh (at now state) (drops peer) harmless refl on
stays_on setup state now fresh (sends peer bytes) address harmless opens on = on
stays_on setup state now fresh closes address harmless opens on = other_on address setup fresh (at now state) closes harmless refl on
stays_on setup state now fresh (responds from id authentic answer) address harmless opens on = other_on address setup fresh (at now state) (responds from id authentic answer) harmless refl on
stays_on setup state now fresh (gives from peer bytes) address harmless opens on = on
stays_on setup state now fresh (gives_on from number bytes) address harmless opens on = on
stays_on setup state now fresh (strays from) address harmless opens on = on
stays_on setup state now fresh polls address harmless opens on = polled_on address setup fresh (at now state) (opens refl) on

-- ---- Attempts

-- how many attempts are left: three at each server that is left, and those at this one
abbrev left : Attempt → ℕ
left a = (3 - length a.before) * 3 + (2 - a.tries)

abbrev IsFewer : Attempt → Option Attempt → Type 0
IsFewer a None = Unit {0}
IsFewer a (Some b) = left b < left a

next_at_fewer : (a : Attempt) (code : ℕ) → IsFewer a (next_at a code)
next_at_fewer a code = cond_both ((code == 437) && nat_lt a.tries 2) _ _ (IsFewer a)
    (λ yes. let few = ltb-true a.tries 2 (and_parts (code == 437) (nat_lt a.tries 2) yes).1 in omega (arith, few)) (λ _. tt)

next_by_fewer : (a : Attempt) (server : Endpoint) → IsFewer a (next_by a server)
next_by_fewer a server = cond_both (not (list_any (is_endpoint server) (a.server ∷ a.before)) && nat_lt (length a.before) 3) _ _ (IsFewer a)
    (λ yes. let few = ltb-true (length a.before) 3 (and_parts (not (list_any (is_endpoint server) (a.server ∷ a.before))) (nat_lt (length a.before) 3) yes).1 in omega (arith, few)) (λ _. tt)

next_fewer : (a : Attempt) (why : End) → IsFewer a (next_attempt a why)
next_fewer a Closed = tt
next_fewer a Silent = tt
next_fewer a (Rejected code) = next_at_fewer a code
next_fewer a (Moved server) = next_by_fewer a server
next_fewer a Useless = tt
next_fewer a IntegrityViolated = tt

all_fewer : (a : Attempt) (next : List Attempt) → AreNext a next → length next ≤ left a
all_fewer a [] are = zero-le
all_fewer a (b ∷ next) are =
    let more = all_fewer b next are.1 in
    let less : left b < left a = subst (IsFewer a) are.0.1 (next_fewer a are.0.0) in
    omega (arith, more, less)

pub few_attempts : (first : Endpoint) (next : List Attempt) → AreNext (begun_attempt first) next → length next ≤ 11
few_attempts first next are = all_fewer (begun_attempt first) next are
