-- What is kept never exceeds its bounds.
use Rattle.std.proofs.Common.{◌≡◌, ℕ, suc, ◌≤◌, Bool, true, false, ◌&&◌, ◌||◌, not, List, [], ◌∷◌, Option, None, Some, map, refl, ap, subst, sym, arith, ltb-true, zero-le, find, length}
use Rattle.std.specs.List.{list_any}
use Rattle.std.specs.Option.{option_map_or}
use Rattle.std.specs.Prelude.{◌==◌, nat_lt, is_some}
use Rattle.std.proofs.lemmas.Bool.{cond_both, and_parts}
use Rattle.turn_client_machine.specs.Clients.{Endpoint, is_endpoint, Setup, Kind, Allocate, Refresh, Delete, Permit, Bind, Request, Pending, Phase, Quiet, Asking, Allocated, Closing, Ended, Task, Peer, State, is_allocated, is_active, is_peer, is_rested, Useless}
use Rattle.turn_client_machine.specs.Events.{Answer, Opened, Extended, Done, Refused, Challenged, Redirected, Violated, Event, allocates, permits, binds, drops, sends, closes, responds, gives, gives_on, strays, polls}
use Rattle.turn_client_machine.specs.Tasks.{again_task, awaits, may_retry, is_due, is_expired, may_send, sends_so_far, turned}
use Rattle.turn_client_machine.specs.Responses.{asks_instead, changed_first, is_allocate, opened, extended, extended_by, answered, restarted, reopened, granted_by, granted, given_up, turned_down, challenged, awaits_of, answered_peer, deletes, is_long, is_useful, violated_by, changed_each}
use Rattle.turn_client_machine.specs.Steps.{Step, keeps, at, covers, can_name, replaced, with_new, wanting, dropped, is_listed, begins, closes_from, kind_of, turned_of, turns_peer, happens, is_next, is_free, own_task, takes_along, is_fit, most_others, turned_first}
use Rattle.turn_client_machine.specs.Runs.{Timed, run}
use Rattle.turn_client_machine.specs.Bounds.{IsFew, IsWithin}
use Rattle.turn_client_machine.proofs.NumbersLemmas.{room_left, joined_keeps}
use Rattle.turn_client_machine.proofs.Keeping.{PeerChanges, happens_each, MainChanges, happens_main}
use Rattle.turn_client_machine.proofs.JoiningLemmas.{own_pending}

abbrev FewOf : Setup → Peer → Type 0
FewOf setup p = IsFew setup p.task

abbrev FewTask : Setup → Phase → Task → ℕ → Type 0
FewTask setup phase t expires_at = IsFew setup t

few_none : (setup : Setup) (t : Task) → t.pending ≡ None → t.retries ≤ setup.most_retries → IsFew setup t
few_none setup t none le = record { sends = subst (λ (o : Option Pending). option_map_or (λ (q : Pending). q.sends) o 0 ≤ setup.most_sends) (sym none) zero-le; retries = le }

turned_few : (setup : Setup) (clock fresh : ℕ) (kind : Kind) (challenge : Option ℕ) (t : Task) → IsFew setup t → IsFew setup (turned setup clock fresh kind challenge t)
turned_few setup clock fresh kind challenge t f = cond_both (may_send setup t) _ _ (IsFew setup)
    (λ may. record { sends = let less = ltb-true (sends_so_far t) setup.most_sends may in omega (arith, less); retries = f.retries })
    (λ _. record { sends = f.sends; retries = f.retries })

again_few : (setup : Setup) (clock : ℕ) (challenge : Option ℕ) (code : ℕ) (t : Task) → may_retry setup challenge code t ≡ true → IsFew setup (again_task clock t)
again_few setup clock challenge code t may =
    few_none setup (again_task clock t) refl (let less = ltb-true t.retries setup.most_retries (and_parts (nat_lt t.retries setup.most_retries) ((code == 438) || not (is_some challenge)) may).0 in omega (arith, less))

given_up_few : (setup : Setup) (code : ℕ) (p : Peer) → FewOf setup p → FewOf setup (given_up code p)
given_up_few setup code p f = record { sends = zero-le; retries = f.retries }

granted_few : (setup : Setup) (r : Request) (kind : Kind) (p : Peer) → FewOf setup p → FewOf setup (granted_by r kind p)
granted_few setup r Allocate p f = f
granted_few setup r Refresh p f = f
granted_few setup r Delete p f = f
granted_few setup r (Permit peer) p f = record { sends = zero-le; retries = zero-le }
granted_few setup r (Bind number peer) p f = record { sends = zero-le; retries = zero-le }

granted_few_of : (setup : Setup) (p : Peer) (o : Option Pending) → FewOf setup p → FewOf setup (option_map_or (λ (q : Pending). granted_by q.request q.request.kind p) o p)
granted_few_of setup p None f = f
granted_few_of setup p (Some q) f = granted_few setup q.request q.request.kind p f

wanting_few : (setup : Setup) (clock : ℕ) (p : Peer) → FewOf setup p → FewOf setup (wanting clock p)
wanting_few setup clock p f = cond_both p.over _ _ (FewOf setup) (λ _. record { sends = zero-le; retries = zero-le })
    (λ _. cond_both p.wants _ _ (FewOf setup) (λ _. f) (λ _. record { sends = zero-le; retries = zero-le }))

own_few : (setup : Setup) (p : Peer) → FewOf setup p → IsFew setup (own_task p)
own_few setup p f = record { sends = own_pending (λ o. option_map_or (λ (q : Pending). q.sends) o 0 ≤ setup.most_sends) p zero-le f.sends; retries = f.retries }

few_changes : (setup : Setup) (fresh : ℕ) (state : State) (event : Event) → PeerChanges (FewOf setup) setup fresh state event
few_changes setup fresh state event = record {
  new = λ wants address peers _ _. record { sends = zero-le; retries = zero-le };
  replaces = λ wants address p _ _ _ _. record { sends = zero-le; retries = zero-le };
  drops_it = λ p address _ _ f. record { sends = zero-le; retries = f.retries };
  reopens = λ p q _ _ f. record { sends = zero-le; retries = zero-le };
  restarts = λ p _ f. record { sends = zero-le; retries = zero-le };
  wants = λ p address _ _. wanting_few setup state.clock p;
  grants = λ p id genuine is f. granted_few_of setup p p.task.pending f;
  turns_down = λ p id code genuine _ _ f. cond_both (asks_instead code p) _ _ (FewOf setup) (λ _. record { sends = zero-le; retries = f.retries }) (λ _. given_up_few setup code p f);
  challenges_it = λ p is _ _ f. cond_both (may_retry setup state.challenge is.code p.task) _ _ (FewOf setup) (λ may. again_few setup state.clock state.challenge is.code p.task may) (λ _. given_up_few setup is.code p f);
  violates_it = λ p is _ _ f. cond_both setup.is_reliable _ _ (FewOf setup) (λ _. given_up_few setup 0 p f) (λ _. f);
  turns_it = λ p along is _ out f. cond_both (is_expired state.clock p.task) _ _ (FewOf setup) (λ _. given_up_few setup 0 p f) (λ _. turned_few setup state.clock fresh (kind_of p) state.challenge (own_task p) (own_few setup p f));
}

few_main : (setup : Setup) (fresh : ℕ) (state : State) (event : Event) → MainChanges (FewTask setup) setup fresh state event
few_main setup fresh state event = record {
  begins_it = λ _. record { sends = zero-le; retries = zero-le };
  closes_it = λ phase why _. record { sends = zero-le; retries = zero-le };
  ends_it = λ phase why f. f;
  opens_it = λ q id relayed mapped lifetime active genuine is awaited kind le f. record { sends = zero-le; retries = zero-le };
  extends_it = λ q id lifetime genuine is awaited kind le f. record { sends = zero-le; retries = zero-le };
  again_it = λ code challenge may f. again_few setup state.clock challenge code state.task may;
  turns_it = λ is fit out f. turned_few setup state.clock fresh _ state.challenge state.task f;
}

-- ---- How many peers

length-map : {X Y : Type 0} (f : X → Y) (xs : List X) → length (map f xs) ≡ length xs
length-map f [] = refl
length-map f (x ∷ xs) = ap suc (length-map f xs)

length-changed_first : {X : Type 0} (test : X → Bool) (change : X → X) (xs : List X) → length (changed_first test change xs) ≡ length xs
length-changed_first test change [] = refl
length-changed_first test change (x ∷ xs) =
    let more = length-changed_first test change xs in
    cond_both (test x) (change x ∷ xs) (x ∷ changed_first test change xs) (λ ys. length ys ≡ suc (length xs)) (λ _. refl) (λ _. ap suc more)

abbrev Few : ℕ → List Peer → Type 0
Few most peers = length peers ≤ most

changed_few : (most : ℕ) (test : Peer → Bool) (change : Peer → Peer) (peers : List Peer) → Few most peers → Few most (changed_first test change peers)
changed_few most test change peers few = subst (λ (n : ℕ). n ≤ most) (sym (length-changed_first test change peers)) few

length-changed_each : {X : Type 0} (test : X → Bool) (change : X → X) (xs : List X) → length (changed_each test change xs) ≡ length xs
length-changed_each test change [] = refl
length-changed_each test change (x ∷ xs) = ap suc (length-changed_each test change xs)

each_few : (most : ℕ) (test : Peer → Bool) (change : Peer → Peer) (peers : List Peer) → Few most peers → Few most (changed_each test change peers)
each_few most test change peers few = subst (λ (n : ℕ). n ≤ most) (sym (length-changed_each test change peers)) few

with_new_few : (setup : Setup) (clock : ℕ) (wants : Bool) (address : Endpoint) (peers : List Peer) → Few setup.most_peers peers → Few setup.most_peers (with_new setup clock wants address peers)
with_new_few setup clock wants address peers few = cond_both (can_name setup clock address peers) _ _ (Few setup.most_peers)
    (λ can. cond_both (list_any (is_rested clock) peers) _ _ (Few setup.most_peers) (λ _. changed_few setup.most_peers (is_rested clock) (replaced clock wants address) peers few)
    (λ none. let less = room_left setup clock address peers can none in omega (arith, less))) (λ _. few)

extended_peers : (kind : Kind) (r : Request) (lifetime : ℕ) (state : State) → (extended_by kind r lifetime state).peers ≡ state.peers
extended_peers Allocate r lifetime state = refl
extended_peers Refresh r lifetime state = cond_both (is_long lifetime) (extended r lifetime state) (deletes Useless state) (λ (s : State). s.peers ≡ state.peers) (λ _. refl) (λ _. refl)
extended_peers Delete r lifetime state = refl
extended_peers (Permit peer) r lifetime state = refl
extended_peers (Bind number peer) r lifetime state = refl

abbrev FewIn : ℕ → State → Type 0
FewIn most state = Few most state.peers

answered_count : (most : ℕ) (setup : Setup) (authentic : Bool) (answer : Answer) (state : State) (r : Request) → FewIn most state → FewIn most (answered setup authentic answer state r)
answered_count most setup authentic (Opened relayed mapped lifetime) state r few = cond_both (authentic && is_allocate r.kind) _ _ (FewIn most)
    (λ _. cond_both (is_useful setup relayed lifetime) (opened r relayed mapped lifetime state) (deletes Useless state) (FewIn most)
    (λ _. subst (λ (n : ℕ). n ≤ most) (sym (length-map (reopened state.clock) state.peers)) few) (λ _. few)) (λ _. few)
answered_count most setup authentic (Extended lifetime) state r few = cond_both authentic _ _ (FewIn most) (λ _. subst (Few most) (sym (extended_peers r.kind r lifetime state)) few) (λ _. few)
answered_count most setup authentic Done state r few = few
answered_count most setup authentic (Refused code) state r few = cond_both authentic _ _ (FewIn most) (λ _. few) (λ _. few)
answered_count most setup authentic (Challenged code challenge) state r few = cond_both (may_retry setup state.challenge code state.task) _ _ (FewIn most) (λ _. few) (λ _. few)
answered_count most setup authentic (Redirected server) state r few = cond_both (authentic && is_allocate r.kind) _ _ (FewIn most) (λ _. few) (λ _. few)
answered_count most setup authentic Violated state r few = cond_both setup.is_reliable _ _ (FewIn most) (λ _. few) (λ _. few)

peer_count : (most : ℕ) (setup : Setup) (id : ℕ) (authentic : Bool) (answer : Answer) (state : State) → FewIn most state → FewIn most (answered_peer setup id authentic answer state)
peer_count most setup id authentic (Opened relayed mapped lifetime) state few = few
peer_count most setup id authentic (Extended lifetime) state few = few
peer_count most setup id authentic Done state few = cond_both authentic _ _ (FewIn most) (λ _. each_few most (awaits_of id) granted state.peers few) (λ _. few)
peer_count most setup id authentic (Refused code) state few = cond_both authentic _ _ (FewIn most)
    (λ _. cond_both (code == 437) _ _ (FewIn most) (λ _. few) (λ _. each_few most (awaits_of id) (turned_down state.clock code) state.peers few)) (λ _. few)
peer_count most setup id authentic (Challenged code challenge) state few = each_few most (awaits_of id) (challenged setup state.challenge state.clock code) state.peers few
peer_count most setup id authentic (Redirected server) state few = few
peer_count most setup id authentic Violated state few = each_few most (awaits_of id) (violated_by setup) state.peers few

task_count : (most : ℕ) (setup : Setup) (authentic : Bool) (answer : Answer) (state : State) (o : Option Pending) → FewIn most state → FewIn most (option_map_or (λ (q : Pending). answered setup authentic answer state q.request) o state)
task_count most setup authentic answer state None few = few
task_count most setup authentic answer state (Some q) few = answered_count most setup authentic answer state q.request few

turn_count : (most : ℕ) (setup : Setup) (fresh : ℕ) (state : State) (o : Option Peer) → FewIn most state → FewIn most (option_map_or (turns_peer setup fresh (is_free state.peers) state) o (keeps state)).state
turn_count most setup fresh state None few = few
turn_count most setup fresh state (Some p) few =
    let along = takes_along setup state.clock state.peers p in
    joined_keeps (Few most) setup state.clock fresh state.challenge (λ ps. changed_few most (is_fit state.clock) (turned_of true setup state.clock fresh state.challenge) ps) (most_others setup along) (turned_first setup fresh (is_free state.peers) along state)
    (changed_few most (is_next (is_free state.peers) state.clock) (turned_of along setup state.clock fresh state.challenge) state.peers few)

begins_count : (most : ℕ) (phase : Phase) (state : State) → FewIn most state → FewIn most (begins phase state)
begins_count most Quiet state few = few
begins_count most Asking state few = few
begins_count most Allocated state few = few
begins_count most (Closing why) state few = few
begins_count most (Ended why) state few = few

closes_count : (most : ℕ) (phase : Phase) (state : State) → FewIn most state → FewIn most (closes_from phase state)
closes_count most Quiet state few = few
closes_count most Asking state few = cond_both (is_some state.challenge) _ _ (FewIn most) (λ _. few) (λ _. few)
closes_count most Allocated state few = few
closes_count most (Closing why) state few = few
closes_count most (Ended why) state few = few

happens_count : (setup : Setup) (fresh : ℕ) (state : State) (event : Event) → FewIn setup.most_peers state → FewIn setup.most_peers (happens setup fresh state event).state
happens_count setup fresh state allocates few = begins_count setup.most_peers state.phase state few
happens_count setup fresh state (permits address) few = cond_both (list_any (covers address.ip) state.peers) _ _ (Few setup.most_peers) (λ _. few)
    (λ _. cond_both (list_any (is_peer address) state.peers) _ _ (Few setup.most_peers)
    (λ _. changed_few setup.most_peers (is_peer address) (restarted state.clock) state.peers few)
    (λ _. with_new_few setup state.clock false address state.peers few))
happens_count setup fresh state (binds address) few = cond_both (list_any (is_peer address) state.peers) _ _ (Few setup.most_peers)
    (λ _. changed_few setup.most_peers (is_peer address) (wanting state.clock) state.peers few)
    (λ _. with_new_few setup state.clock true address state.peers few)
happens_count setup fresh state (drops address) few = changed_few setup.most_peers (is_listed address) (dropped state.clock) state.peers few
happens_count setup fresh state (sends peer bytes) few = few
happens_count setup fresh state closes few = closes_count setup.most_peers state.phase state few
happens_count setup fresh state (responds from id authentic answer) few =
    cond_both (is_endpoint from setup.server && is_active state.phase) _ _ (FewIn setup.most_peers)
    (λ _. cond_both (awaits id state.task) _ _ (FewIn setup.most_peers) (λ _. task_count setup.most_peers setup authentic answer state state.task.pending few)
    (λ _. cond_both (is_allocated state.phase && list_any (awaits_of id) state.peers) _ _ (FewIn setup.most_peers) (λ _. peer_count setup.most_peers setup id authentic answer state few) (λ _. few)))
    (λ _. few)
happens_count setup fresh state (gives from peer bytes) few = few
happens_count setup fresh state (gives_on from number bytes) few = few
happens_count setup fresh state (strays from) few = few
happens_count setup fresh state polls few =
    cond_both (is_active state.phase && is_due state.clock state.task) _ _ (λ (s : Step). FewIn setup.most_peers s.state)
    (λ _. cond_both (is_expired state.clock state.task) _ _ (λ (s : Step). FewIn setup.most_peers s.state) (λ _. few) (λ _. few))
    (λ _. cond_both (is_allocated state.phase) _ _ (λ (s : Step). FewIn setup.most_peers s.state)
    (λ _. turn_count setup.most_peers setup fresh state (find (is_next (is_free state.peers) state.clock) state.peers) few) (λ _. few))

pub run_within : (setup : Setup) (events : List Timed) → IsWithin setup (run setup events)
run_within setup [] = record { peers = zero-le; allocation = record { sends = zero-le; retries = zero-le }; each = tt }
run_within setup (timed ∷ earlier) =
    let w = run_within setup earlier in
    let now = at timed.now (run setup earlier) in
    record {
      peers = happens_count setup timed.fresh now timed.event w.peers;
      allocation = happens_main (FewTask setup) setup timed.fresh now timed.event (few_main setup timed.fresh now timed.event) w.allocation;
      each = happens_each (FewOf setup) setup timed.fresh now timed.event (few_changes setup timed.fresh now timed.event) w.each;
    }
