-- What a step may change: a property of each peer, or of what is asked of the allocation, holds after it
-- if each change keeps it.
use Rattle.std.proofs.Common.{◌≡◌, ℕ, ◌+◌, ◌-◌, ◌≤◌, inl, inr, ◌⊎◌, Bool, true, false, not, ◌&&◌, ◌||◌, List, [], Option, None, Some, refl, sym, ap, subst, ◌∙◌, find}
use Rattle.std.specs.List.{AllByRecursion, list_any}
use Rattle.std.specs.Option.{option_map_or}
use Rattle.std.specs.Prelude.{◌==◌, is_some}
use Rattle.std.proofs.lemmas.Bool.{cond_both, cond-true, cond-false, and_parts, leb-true, not-true}
use Rattle.turn_client_machine.specs.Clients.{Endpoint, is_endpoint, seconds, Setup, Kind, Allocate, Refresh, Delete, Permit, Bind, Request, Pending, End, Closed, Rejected, Moved, Useless, Phase, Quiet, Asking, Allocated, Closing, Ended, Task, Peer, State, is_allocated, is_active, is_peer, is_rested}
use Rattle.turn_client_machine.specs.Events.{Answer, Opened, Extended, Done, Refused, Challenged, Redirected, Violated, Event, allocates, permits, binds, drops, sends, closes, responds, gives, gives_on, strays, polls, Output, asks, nothing}
use Rattle.turn_machine.specs.Lists.{SomeOf}
use Rattle.turn_client_machine.specs.Warrants.{AsksFor}
use Rattle.turn_client_machine.specs.Tasks.{request_now, may_send, begun_task, kept_task, again_task, awaits, may_retry, is_due, is_expired, turned, turn_output}
use Rattle.turn_client_machine.specs.Responses.{is_allocate, ends, restarted, reopened, opened, extended, extended_by, answered, granted, turned_down, challenged, awaits_of, answered_peer, responded, deletes, is_long, is_useful, reason_in, violated_by}
use Rattle.turn_client_machine.specs.Steps.{Step, keeps, begins, covers, can_name, new_peer, replaced, with_new, wanting, dropped, is_listed, closes_from, kind_in, silent_in, turns, turned_of, turns_peer, polled, happens, is_next, is_free, is_single, is_fit, is_due_of, kind_of, own_task, takes_along, turned_first, others_at, others_of}
use Rattle.turn_client_machine.proofs.ListsLemmas.{each_mapped, each_changed, each_changed_each, Within, some_map}
use Rattle.turn_client_machine.proofs.JoiningLemmas.{fit_parts, takes_parts, Wanted, fresh_request, fresh_may, joined_each}

-- an authentic response from the server
pub record Genuine (setup : Setup) (event : Event) (id : ℕ) (answer : Answer) : Type 0 where
  pub from : Endpoint
  pub is_server : is_endpoint from setup.server ≡ true
  pub event_is : event ≡ responds from id true answer

-- a response that asks for credentials
pub record IsChallenged (event : Event) : Type 0 where
  pub from : Endpoint
  pub id : ℕ
  pub authentic : Bool
  pub code : ℕ
  pub challenge : ℕ
  pub event_is : event ≡ responds from id authentic (Challenged code challenge)

-- a response with a wrong integrity
pub record IsViolated (event : Event) : Type 0 where
  pub from : Endpoint
  pub id : ℕ
  pub authentic : Bool
  pub event_is : event ≡ responds from id authentic Violated

-- ---- Peers

-- why a peer starts again: the user has named a peer that is over
abbrev pub Restarts : State → Event → Peer → Type 0
Restarts state event p = (address : Endpoint) × (event ≡ permits address) × (is_peer address p ≡ true) × (find (is_peer address) state.peers ≡ Some p) × (list_any (covers address.ip) state.peers ≡ false)

-- if a request for the peer is sent now, the output asks for it
abbrev pub IsAskedFor : Setup → (clock fresh : ℕ) → (challenge : Option ℕ) → Peer → Output → Type 0
IsAskedFor setup clock fresh challenge p output = is_expired clock p.task ≡ false → may_send setup (own_task p) ≡ true → AsksFor (request_now clock fresh (kind_of p) challenge (own_task p)) output

pub record PeerChanges (P : Peer → Type 0) (setup : Setup) (fresh : ℕ) (state : State) (event : Event) : Type 0 where
  pub new : (wants : Bool) (address : Endpoint) (peers : List Peer) → (event ≡ permits address) ⊎ (event ≡ binds address) → list_any (is_peer address) state.peers ≡ false → P (new_peer state.clock wants address peers)
  pub replaces : (wants : Bool) (address : Endpoint) (p : Peer) → (event ≡ permits address) ⊎ (event ≡ binds address) → list_any (is_peer address) state.peers ≡ false → is_rested state.clock p ≡ true → P p → P (replaced state.clock wants address p)
  pub drops_it : (p : Peer) (address : Endpoint) → event ≡ drops address → is_listed address p ≡ true → P p → P (dropped state.clock p)
  pub reopens : (p : Peer) (q : Pending) → state.task.pending ≡ Some q → is_allocate q.request.kind ≡ true → P p → P (reopened state.clock p)
  pub restarts : (p : Peer) → Restarts state event p → P p → P (restarted state.clock p)
  pub wants : (p : Peer) (address : Endpoint) → event ≡ binds address → is_peer address p ≡ true → P p → P (wanting state.clock p)
  pub grants : (p : Peer) (id : ℕ) → Genuine setup event id Done → awaits_of id p ≡ true → P p → P (granted p)
  pub turns_down : (p : Peer) (id code : ℕ) → Genuine setup event id (Refused code) → awaits_of id p ≡ true → Within state.peers p → P p → P (turned_down state.clock code p)
  pub challenges_it : (p : Peer) (is : IsChallenged event) → awaits_of is.id p ≡ true → Within state.peers p → P p → P (challenged setup state.challenge state.clock is.code p)
  pub violates_it : (p : Peer) (is : IsViolated event) → awaits_of is.id p ≡ true → Within state.peers p → P p → P (violated_by setup p)
  pub turns_it : (p : Peer) (along : Bool) → event ≡ polls → p.over ≡ false → IsAskedFor setup state.clock fresh state.challenge p (polled setup fresh state).output → P p
      → P (turned_of along setup state.clock fresh state.challenge p)

with_new_each : (P : Peer → Type 0) (setup : Setup) (clock : ℕ) (wants : Bool) (address : Endpoint) (peers : List Peer) → P (new_peer clock wants address peers) → ((p : Peer) → is_rested clock p ≡ true → P p → P (replaced clock wants address p)) → AllByRecursion P peers
    → AllByRecursion P (with_new setup clock wants address peers)
with_new_each P setup clock wants address peers one other each = cond_both (can_name setup clock address peers) _ _ (AllByRecursion P)
    (λ _. cond_both (list_any (is_rested clock) peers) _ _ (AllByRecursion P) (λ _. each_changed P (is_rested clock) (replaced clock wants address) peers (λ p is _. other p is) each) (λ _. (one, each))) (λ _. each)

extended_each : (P : Peer → Type 0) (kind : Kind) (r : Request) (lifetime : ℕ) (state : State) → AllByRecursion P state.peers → AllByRecursion P (extended_by kind r lifetime state).peers
extended_each P Allocate r lifetime state each = each
extended_each P Refresh r lifetime state each = cond_both (is_long lifetime) (extended r lifetime state) (deletes Useless state) (λ (s : State). AllByRecursion P s.peers) (λ _. each) (λ _. each)
extended_each P Delete r lifetime state each = each
extended_each P (Permit peer) r lifetime state each = each
extended_each P (Bind number peer) r lifetime state each = each

answered_each : (P : Peer → Type 0) (setup : Setup) (authentic : Bool) (answer : Answer) (state : State) (r : Request) → (is_allocate r.kind ≡ true → (p : Peer) → P p → P (reopened state.clock p)) → AllByRecursion P state.peers → AllByRecursion P (answered setup authentic answer state r).peers
answered_each P setup authentic (Opened relayed mapped lifetime) state r restarts each =
    cond_both (authentic && is_allocate r.kind) _ _ (λ (s : State). AllByRecursion P s.peers)
    (λ yes. cond_both (is_useful setup relayed lifetime) (opened r relayed mapped lifetime state) (deletes Useless state) (λ (s : State). AllByRecursion P s.peers)
    (λ _. each_mapped P P (reopened state.clock) (restarts (and_parts authentic (is_allocate r.kind) yes).1) state.peers each) (λ _. each))
    (λ _. each)
answered_each P setup authentic (Extended lifetime) state r restarts each =
    cond_both authentic _ _ (λ (s : State). AllByRecursion P s.peers) (λ _. extended_each P r.kind r lifetime state each) (λ _. each)
answered_each P setup authentic Done state r restarts each = each
answered_each P setup authentic (Refused code) state r restarts each = cond_both authentic _ _ (λ (s : State). AllByRecursion P s.peers) (λ _. each) (λ _. each)
answered_each P setup authentic (Challenged code challenge) state r restarts each = cond_both (may_retry setup state.challenge code state.task) _ _ (λ (s : State). AllByRecursion P s.peers) (λ _. each) (λ _. each)
answered_each P setup authentic (Redirected server) state r restarts each = cond_both (authentic && is_allocate r.kind) _ _ (λ (s : State). AllByRecursion P s.peers) (λ _. each) (λ _. each)
answered_each P setup authentic Violated state r restarts each = cond_both setup.is_reliable _ _ (λ (s : State). AllByRecursion P s.peers) (λ _. each) (λ _. each)

peer_answered_each : (P : Peer → Type 0) (setup : Setup) (fresh : ℕ) (from : Endpoint) (id : ℕ) (authentic : Bool) (answer : Answer) (state : State) → is_endpoint from setup.server ≡ true
    → PeerChanges P setup fresh state (responds from id authentic answer) → AllByRecursion P state.peers → AllByRecursion P (answered_peer setup id authentic answer state).peers
peer_answered_each P setup fresh from id authentic (Opened relayed mapped lifetime) state server c each = each
peer_answered_each P setup fresh from id authentic (Extended lifetime) state server c each = each
peer_answered_each P setup fresh from id true Done state server c each =
    each_changed_each P (awaits_of id) granted state.peers (λ p is _. c.grants p id (record { from = from; is_server = server; event_is = refl }) is) each
peer_answered_each P setup fresh from id false Done state server c each = each
peer_answered_each P setup fresh from id true (Refused code) state server c each =
    cond_both (code == 437) _ _ (λ (s : State). AllByRecursion P s.peers) (λ _. each)
    (λ _. each_changed_each P (awaits_of id) (turned_down state.clock code) state.peers (λ p is found. c.turns_down p id code (record { from = from; is_server = server; event_is = refl }) is found) each)
peer_answered_each P setup fresh from id false (Refused code) state server c each = each
peer_answered_each P setup fresh from id authentic (Challenged code challenge) state server c each =
    each_changed_each P (awaits_of id) (challenged setup state.challenge state.clock code) state.peers
    (λ p is found. c.challenges_it p (record { from = from; id = id; authentic = authentic; code = code; challenge = challenge; event_is = refl }) is found) each
peer_answered_each P setup fresh from id authentic (Redirected server) state is c each = each
peer_answered_each P setup fresh from id authentic Violated state is c each =
    each_changed_each P (awaits_of id) (violated_by setup) state.peers (λ p is found. c.violates_it p (record { from = from; id = id; authentic = authentic; event_is = refl }) is found) each

task_answered_each : (P : Peer → Type 0) (setup : Setup) (authentic : Bool) (answer : Answer) (state : State) (o : Option Pending) → ((q : Pending) → o ≡ Some q → is_allocate q.request.kind ≡ true → (p : Peer) → P p → P (reopened state.clock p)) → AllByRecursion P state.peers
    → AllByRecursion P (option_map_or (λ (q : Pending). answered setup authentic answer state q.request) o state).peers
task_answered_each P setup authentic answer state None restarts each = each
task_answered_each P setup authentic answer state (Some q) restarts each = answered_each P setup authentic answer state q.request (restarts q refl) each

responded_each : (P : Peer → Type 0) (setup : Setup) (fresh : ℕ) (from : Endpoint) (id : ℕ) (authentic : Bool) (answer : Answer) (state : State)
    → PeerChanges P setup fresh state (responds from id authentic answer) → AllByRecursion P state.peers → AllByRecursion P (responded setup from id authentic answer state).peers
responded_each P setup fresh from id authentic answer state c each =
    cond_both (is_endpoint from setup.server && is_active state.phase) _ _ (λ (s : State). AllByRecursion P s.peers)
    (λ yes. cond_both (awaits id state.task) _ _ (λ (s : State). AllByRecursion P s.peers)
    (λ _. task_answered_each P setup authentic answer state state.task.pending (λ q is kind p one. c.reopens p q is kind one) each)
    (λ _. cond_both (is_allocated state.phase && list_any (awaits_of id) state.peers) _ _ (λ (s : State). AllByRecursion P s.peers)
    (λ _. peer_answered_each P setup fresh from id authentic answer state (and_parts (is_endpoint from setup.server) (is_active state.phase) yes).0 c each)
    (λ _. each)))
    (λ _. each)

turns_each : (P : Peer → Type 0) (setup : Setup) (fresh : ℕ) (state : State) → AllByRecursion P state.peers → AllByRecursion P (turns setup fresh state).state.peers
turns_each P setup fresh state each = cond_both (is_expired state.clock state.task) _ _ (λ (s : Step). AllByRecursion P s.state.peers) (λ _. each) (λ _. each)

-- a peer that is next, or fit, isn't over
pub due_on : (clock : ℕ) (p : Peer) → is_due_of clock p ≡ true → p.over ≡ false
due_on clock p due = not-true p.over (and_parts (not p.over) (is_due clock p.task) due).0

pub next_due : (free : Bool) (clock : ℕ) (p : Peer) → is_next free clock p ≡ true → is_due_of clock p ≡ true
next_due free clock p next = (and_parts (free || (is_single p || is_expired clock p.task)) (is_due_of clock p) next).1

-- the output if a peer has its turn
abbrev TurnOutput : Setup → (fresh : ℕ) → State → Peer → Output
TurnOutput setup fresh state p = (turns_peer setup fresh (is_free state.peers) state p).output

first_asked : (setup : Setup) (fresh : ℕ) (state : State) (p : Peer) → IsAskedFor setup state.clock fresh state.challenge p (TurnOutput setup fresh state p)
first_asked setup fresh state p fit may =
    let others = others_at setup fresh (is_free state.peers) (takes_along setup state.clock state.peers p) state in
    let r = request_now state.clock fresh (kind_of p) state.challenge (own_task p) in
    let out : TurnOutput setup fresh state p ≡ asks r others =
    cond-false (is_expired state.clock p.task) nothing (turn_output setup state.clock fresh (kind_of p) state.challenge others (own_task p)) fit
    ∙ cond-true (may_send setup (own_task p)) (asks r others) nothing may in
    subst (AsksFor r) (sym out) (inl refl)

-- a further peer
along_asked : (setup : Setup) (fresh : ℕ) (state : State) (p q : Peer) → takes_along setup state.clock state.peers p ≡ true → is_fit state.clock q ≡ true
    → SomeOf (λ e. q.address ≡ e) (others_at setup fresh (is_free state.peers) (takes_along setup state.clock state.peers p) state) → IsAskedFor setup state.clock fresh state.challenge q (TurnOutput setup fresh state p)
along_asked setup fresh state p q along fit some _ _ =
    let clock = state.clock in
    let others = others_at setup fresh (is_free state.peers) (takes_along setup clock state.peers p) state in
    let parts = takes_parts setup clock state.peers p along in
    let first = fresh_request clock fresh state.challenge p parts.fit in
    let own = fresh_request clock fresh state.challenge q fit in
    let r = request_now clock fresh (kind_of p) state.challenge (own_task p) in
    let out : TurnOutput setup fresh state p ≡ asks r others =
    cond-false (is_expired clock p.task) nothing (turn_output setup clock fresh (kind_of p) state.challenge others (own_task p)) (fit_parts clock p parts.fit).early
    ∙ cond-true (may_send setup (own_task p)) (asks r others) nothing (fresh_may setup clock p parts.fit parts.sends) in
    let r_is : r ≡ Wanted clock fresh state.challenge p.address = first in
    subst (AsksFor (request_now clock fresh (kind_of q) state.challenge (own_task q))) (sym out)
    (inr (record {
      peer = p.address;
      kind = ap (λ (x : Request). x.kind) r_is;
      named = some_map (λ e. q.address ≡ e) (λ e. request_now clock fresh (kind_of q) state.challenge (own_task q) ≡ record r { kind = Permit e })
          (λ e is. own ∙ (ap (Wanted clock fresh state.challenge) is ∙ ap (λ (x : Request). record x { kind = Permit e }) (sym r_is))) others some;
    }))

found_each : (P : Peer → Type 0) (setup : Setup) (fresh : ℕ) (state : State) (o : Option Peer) → find (is_next (is_free state.peers) state.clock) state.peers ≡ o
    → ((p q : Peer) (along : Bool) → o ≡ Some p → q.over ≡ false → IsAskedFor setup state.clock fresh state.challenge q (TurnOutput setup fresh state p) → P q → P (turned_of along setup state.clock fresh state.challenge q)) → AllByRecursion P state.peers → AllByRecursion P (option_map_or (turns_peer setup fresh (is_free state.peers) state) o (keeps state)).state.peers
found_each P setup fresh state None is f each = each
found_each P setup fresh state (Some p) is f each =
    let clock = state.clock in
    let along = takes_along setup clock state.peers p in
    let turned = turned_first setup fresh (is_free state.peers) along state in
    let first : AllByRecursion P turned = each_changed P (is_next (is_free state.peers) clock) (turned_of along setup clock fresh state.challenge) state.peers
    (λ q due found. let e : Some p ≡ Some q = sym is ∙ found in let same : p ≡ q = cc in f p q along refl (due_on clock q (next_due (is_free state.peers) clock q due)) (subst (λ (x : Peer). IsAskedFor setup clock fresh state.challenge x (TurnOutput setup fresh state p)) same (first_asked setup fresh state p))) each in
    joined_each P setup clock fresh state.challenge along (setup.most_named - 1) turned (λ taken q fit some. f p q true refl (due_on (clock + seconds 30) q (fit_parts clock q fit).due) (along_asked setup fresh state p q taken fit (subst (λ (n : ℕ). SomeOf (λ e. q.address ≡ e) (others_of setup clock fresh state.challenge n turned)) (sym (cond-true {A = ℕ} along (setup.most_named - 1) 0 taken)) some))) first

polled_each : (P : Peer → Type 0) (setup : Setup) (fresh : ℕ) (state : State) → PeerChanges P setup fresh state polls → AllByRecursion P state.peers → AllByRecursion P (polled setup fresh state).state.peers
polled_each P setup fresh state c each =
    cond_both (is_active state.phase && is_due state.clock state.task) _ _ (λ (s : Step). AllByRecursion P s.state.peers)
    (λ _. turns_each P setup fresh state each)
    (λ not_main. cond_both (is_allocated state.phase) _ _ (λ (s : Step). AllByRecursion P s.state.peers)
    (λ there. found_each P setup fresh state (find (is_next (is_free state.peers) state.clock) state.peers) refl
    (λ p q along is on asked one. c.turns_it q along refl on
    (subst (IsAskedFor setup state.clock fresh state.challenge q)
    (sym (ap (λ (s : Step). s.output) (cond-false (is_active state.phase && is_due state.clock state.task) (turns setup fresh state) _ not_main
    ∙ (cond-true (is_allocated state.phase) _ (keeps state) there ∙ ap (λ (o : Option Peer). option_map_or (turns_peer setup fresh (is_free state.peers) state) o (keeps state)) is))))
    asked)
    one) each)
    (λ _. each))

begins_each : (P : Peer → Type 0) (phase : Phase) (state : State) → AllByRecursion P state.peers → AllByRecursion P (begins phase state).peers
begins_each P Quiet state each = each
begins_each P Asking state each = each
begins_each P Allocated state each = each
begins_each P (Closing why) state each = each
begins_each P (Ended why) state each = each

closes_each : (P : Peer → Type 0) (phase : Phase) (state : State) → AllByRecursion P state.peers → AllByRecursion P (closes_from phase state).peers
closes_each P Quiet state each = each
closes_each P Asking state each = cond_both (is_some state.challenge) _ _ (λ (s : State). AllByRecursion P s.peers) (λ _. each) (λ _. each)
closes_each P Allocated state each = each
closes_each P (Closing why) state each = each
closes_each P (Ended why) state each = each

pub happens_each : (P : Peer → Type 0) (setup : Setup) (fresh : ℕ) (state : State) (event : Event) → PeerChanges P setup fresh state event → AllByRecursion P state.peers → AllByRecursion P (happens setup fresh state event).state.peers
happens_each P setup fresh state allocates c each = begins_each P state.phase state each
happens_each P setup fresh state (permits address) c each =
    cond_both (list_any (covers address.ip) state.peers) _ _ (AllByRecursion P) (λ _. each)
    (λ uncovered. cond_both (list_any (is_peer address) state.peers) _ _ (AllByRecursion P)
    (λ _. each_changed P (is_peer address) (restarted state.clock) state.peers (λ p is found. c.restarts p (address, refl, is, found, uncovered)) each)
    (λ unknown. with_new_each P setup state.clock false address state.peers (c.new false address state.peers (inl refl) unknown) (λ p. c.replaces false address p (inl refl) unknown) each))
happens_each P setup fresh state (binds address) c each =
    cond_both (list_any (is_peer address) state.peers) _ _ (AllByRecursion P)
    (λ _. each_changed P (is_peer address) (wanting state.clock) state.peers (λ p is _. c.wants p address refl is) each)
    (λ unknown. with_new_each P setup state.clock true address state.peers (c.new true address state.peers (inr refl) unknown) (λ p. c.replaces true address p (inr refl) unknown) each)
happens_each P setup fresh state (drops address) c each = each_changed P (is_listed address) (dropped state.clock) state.peers (λ p is _. c.drops_it p address refl is) each
happens_each P setup fresh state (sends peer bytes) c each = each
happens_each P setup fresh state closes c each = closes_each P state.phase state each
happens_each P setup fresh state (responds from id authentic answer) c each = responded_each P setup fresh from id authentic answer state c each
happens_each P setup fresh state (gives from peer bytes) c each = each
happens_each P setup fresh state (gives_on from number bytes) c each = each
happens_each P setup fresh state (strays from) c each = each
happens_each P setup fresh state polls c each = polled_each P setup fresh state c each

-- ---- The allocation

pub record MainChanges (A : Phase → Task → ℕ → Type 0) (setup : Setup) (fresh : ℕ) (state : State) (event : Event) : Type 0 where
  pub begins_it : A Quiet state.task state.expires_at → A Asking (begun_task state.clock) state.expires_at
  pub closes_it : (phase : Phase) (why : End) → A phase state.task state.expires_at → A (Closing why) (begun_task state.clock) state.expires_at
  pub ends_it : (phase : Phase) (why : End) → A phase state.task state.expires_at → A (Ended why) state.task state.expires_at
  pub opens_it : (q : Pending) (id : ℕ) (relayed mapped : Endpoint) (lifetime : ℕ) → is_active state.phase ≡ true → Genuine setup event id (Opened relayed mapped lifetime) → state.task.pending ≡ Some q → awaits id state.task ≡ true
      → is_allocate q.request.kind ≡ true → 80 ≤ lifetime → A state.phase state.task state.expires_at
      → A Allocated (kept_task q.request.since lifetime) (q.request.since + seconds lifetime)
  pub extends_it : (q : Pending) (id lifetime : ℕ) → Genuine setup event id (Extended lifetime) → state.task.pending ≡ Some q → awaits id state.task ≡ true → q.request.kind ≡ Refresh → 80 ≤ lifetime
      → A state.phase state.task state.expires_at → A state.phase (kept_task q.request.since lifetime) (q.request.since + seconds lifetime)
  pub again_it : (code : ℕ) (challenge : Option ℕ) → may_retry setup challenge code state.task ≡ true → A state.phase state.task state.expires_at → A state.phase (again_task state.clock state.task) state.expires_at
  pub turns_it : event ≡ polls → is_expired state.clock state.task ≡ false → (polled setup fresh state).output ≡ turn_output setup state.clock fresh (kind_in state.phase) state.challenge [] state.task → A state.phase state.task state.expires_at
      → A state.phase (turned setup state.clock fresh (kind_in state.phase) state.challenge state.task) state.expires_at

abbrev pub Main : (A : Phase → Task → ℕ → Type 0) → State → Type 0
Main A state = A state.phase state.task state.expires_at

extended_main : (A : Phase → Task → ℕ → Type 0) (setup : Setup) (fresh : ℕ) (from : Endpoint) (id lifetime : ℕ) (state : State) (q : Pending) (kind : Kind) → MainChanges A setup fresh state (responds from id true (Extended lifetime))
    → is_endpoint from setup.server ≡ true → state.task.pending ≡ Some q → awaits id state.task ≡ true → q.request.kind ≡ kind → Main A state → Main A (extended_by kind q.request lifetime state)
extended_main A setup fresh from id lifetime state q Allocate c server is awaited kind a = a
extended_main A setup fresh from id lifetime state q Refresh c server is awaited kind a =
    cond_both (is_long lifetime) (extended q.request lifetime state) (deletes Useless state) (Main A)
    (λ yes. c.extends_it q id lifetime (record { from = from; is_server = server; event_is = refl }) is awaited kind (leb-true 80 lifetime yes) a)
    (λ _. c.closes_it state.phase Useless a)
extended_main A setup fresh from id lifetime state q Delete c server is awaited kind a = c.ends_it state.phase (reason_in state.phase) a
extended_main A setup fresh from id lifetime state q (Permit peer) c server is awaited kind a = a
extended_main A setup fresh from id lifetime state q (Bind number peer) c server is awaited kind a = a

answered_main : (A : Phase → Task → ℕ → Type 0) (setup : Setup) (fresh : ℕ) (from : Endpoint) (id : ℕ) (authentic : Bool) (answer : Answer) (state : State) (q : Pending) → MainChanges A setup fresh state (responds from id authentic answer)
    → is_active state.phase ≡ true → is_endpoint from setup.server ≡ true → state.task.pending ≡ Some q → awaits id state.task ≡ true → Main A state → Main A (answered setup authentic answer state q.request)
answered_main A setup fresh from id true (Opened relayed mapped lifetime) state q c active server is awaited a =
    cond_both (is_allocate q.request.kind) _ _ (Main A)
    (λ kind. cond_both (is_useful setup relayed lifetime) (opened q.request relayed mapped lifetime state) (deletes Useless state) (Main A)
    (λ yes. c.opens_it q id relayed mapped lifetime active (record { from = from; is_server = server; event_is = refl }) is awaited kind (leb-true 80 lifetime (and_parts (is_long lifetime) (relayed.ip.family == setup.family) yes).0) a)
    (λ _. c.closes_it state.phase Useless a))
    (λ _. a)
answered_main A setup fresh from id false (Opened relayed mapped lifetime) state q c active server is awaited a = a
answered_main A setup fresh from id true (Extended lifetime) state q c active server is awaited a = extended_main A setup fresh from id lifetime state q q.request.kind c server is awaited refl a
answered_main A setup fresh from id false (Extended lifetime) state q c active server is awaited a = a
answered_main A setup fresh from id authentic Done state q c active server is awaited a = a
answered_main A setup fresh from id true (Refused code) state q c active server is awaited a = c.ends_it state.phase _ a
answered_main A setup fresh from id false (Refused code) state q c active server is awaited a = a
answered_main A setup fresh from id authentic (Challenged code challenge) state q c active server is awaited a =
    cond_both (may_retry setup state.challenge code state.task) _ _ (Main A) (λ may. c.again_it code state.challenge may a) (λ _. c.ends_it state.phase (Rejected code) a)
answered_main A setup fresh from id authentic (Redirected server) state q c active is_server is awaited a =
    cond_both (authentic && is_allocate q.request.kind) _ _ (Main A) (λ _. c.ends_it state.phase (Moved server) a) (λ _. a)
answered_main A setup fresh from id authentic Violated state q c active is_server is awaited a =
    cond_both setup.is_reliable _ _ (Main A) (λ _. c.ends_it state.phase _ a) (λ _. a)

peer_answered_main : (A : Phase → Task → ℕ → Type 0) (setup : Setup) (fresh : ℕ) (from : Endpoint) (id : ℕ) (authentic : Bool) (answer : Answer) (state : State) → MainChanges A setup fresh state (responds from id authentic answer)
    → Main A state → Main A (answered_peer setup id authentic answer state)
peer_answered_main A setup fresh from id authentic (Opened relayed mapped lifetime) state c a = a
peer_answered_main A setup fresh from id authentic (Extended lifetime) state c a = a
peer_answered_main A setup fresh from id authentic Done state c a = cond_both authentic _ _ (Main A) (λ _. a) (λ _. a)
peer_answered_main A setup fresh from id authentic (Refused code) state c a =
    cond_both authentic _ _ (Main A) (λ _. cond_both (code == 437) _ _ (Main A) (λ _. c.ends_it state.phase (Rejected 437) a) (λ _. a)) (λ _. a)
peer_answered_main A setup fresh from id authentic (Challenged code challenge) state c a = a
peer_answered_main A setup fresh from id authentic (Redirected server) state c a = a
peer_answered_main A setup fresh from id authentic Violated state c a = a

task_answered_main : (A : Phase → Task → ℕ → Type 0) (setup : Setup) (fresh : ℕ) (from : Endpoint) (id : ℕ) (authentic : Bool) (answer : Answer) (state : State) (o : Option Pending) → MainChanges A setup fresh state (responds from id authentic answer)
    → is_active state.phase ≡ true → is_endpoint from setup.server ≡ true → state.task.pending ≡ o → awaits id state.task ≡ true → Main A state → Main A (option_map_or (λ (q : Pending). answered setup authentic answer state q.request) o state)
task_answered_main A setup fresh from id authentic answer state None c active server is awaited a = a
task_answered_main A setup fresh from id authentic answer state (Some q) c active server is awaited a = answered_main A setup fresh from id authentic answer state q c active server is awaited a

responded_main : (A : Phase → Task → ℕ → Type 0) (setup : Setup) (fresh : ℕ) (from : Endpoint) (id : ℕ) (authentic : Bool) (answer : Answer) (state : State) → MainChanges A setup fresh state (responds from id authentic answer)
    → Main A state → Main A (responded setup from id authentic answer state)
responded_main A setup fresh from id authentic answer state c a =
    cond_both (is_endpoint from setup.server && is_active state.phase) _ _ (Main A)
    (λ yes. cond_both (awaits id state.task) _ _ (Main A)
    (λ awaited. task_answered_main A setup fresh from id authentic answer state state.task.pending c (and_parts (is_endpoint from setup.server) (is_active state.phase) yes).1 (and_parts (is_endpoint from setup.server) (is_active state.phase) yes).0 refl awaited a)
    (λ _. cond_both (is_allocated state.phase && list_any (awaits_of id) state.peers) _ _ (Main A)
    (λ _. peer_answered_main A setup fresh from id authentic answer state c a) (λ _. a)))
    (λ _. a)

peers_main : (A : Phase → Task → ℕ → Type 0) (setup : Setup) (fresh : ℕ) (state : State) (o : Option Peer) → Main A state → Main A (option_map_or (turns_peer setup fresh (is_free state.peers) state) o (keeps state)).state
peers_main A setup fresh state None a = a
peers_main A setup fresh state (Some p) a = a

polled_main : (A : Phase → Task → ℕ → Type 0) (setup : Setup) (fresh : ℕ) (state : State) → MainChanges A setup fresh state polls → Main A state → Main A (polled setup fresh state).state
polled_main A setup fresh state c a =
    cond_both (is_active state.phase && is_due state.clock state.task) _ _ (λ (s : Step). Main A s.state)
    (λ due. cond_both (is_expired state.clock state.task) _ _ (λ (s : Step). Main A s.state)
    (λ _. c.ends_it state.phase (silent_in state.violated state.phase) a)
    (λ fit. c.turns_it refl fit
    (ap (λ (s : Step). s.output) (cond-true (is_active state.phase && is_due state.clock state.task) (turns setup fresh state) _ due
    ∙ cond-false (is_expired state.clock state.task) (keeps (ends (silent_in state.violated state.phase) state)) _ fit)) a))
    (λ _. cond_both (is_allocated state.phase) _ _ (λ (s : Step). Main A s.state)
    (λ _. peers_main A setup fresh state (find (is_next (is_free state.peers) state.clock) state.peers) a) (λ _. a))

begins_main : (A : Phase → Task → ℕ → Type 0) (setup : Setup) (fresh : ℕ) (state : State) (event : Event) (phase : Phase) → state.phase ≡ phase → MainChanges A setup fresh state event → Main A state → Main A (begins phase state)
begins_main A setup fresh state event Quiet is c a = c.begins_it (subst (λ (p : Phase). A p state.task state.expires_at) is a)
begins_main A setup fresh state event Asking is c a = a
begins_main A setup fresh state event Allocated is c a = a
begins_main A setup fresh state event (Closing why) is c a = a
begins_main A setup fresh state event (Ended why) is c a = a

closes_main : (A : Phase → Task → ℕ → Type 0) (setup : Setup) (fresh : ℕ) (state : State) (event : Event) (phase : Phase) → MainChanges A setup fresh state event → Main A state → Main A (closes_from phase state)
closes_main A setup fresh state event Quiet c a = c.ends_it state.phase Closed a
closes_main A setup fresh state event Asking c a = cond_both (is_some state.challenge) _ _ (Main A) (λ _. c.closes_it state.phase Closed a) (λ _. c.ends_it state.phase Closed a)
closes_main A setup fresh state event Allocated c a = c.closes_it state.phase Closed a
closes_main A setup fresh state event (Closing why) c a = a
closes_main A setup fresh state event (Ended why) c a = a

pub happens_main : (A : Phase → Task → ℕ → Type 0) (setup : Setup) (fresh : ℕ) (state : State) (event : Event) → MainChanges A setup fresh state event → Main A state → Main A (happens setup fresh state event).state
happens_main A setup fresh state allocates c a = begins_main A setup fresh state allocates state.phase refl c a
happens_main A setup fresh state (permits address) c a = a
happens_main A setup fresh state (binds address) c a = a
happens_main A setup fresh state (drops address) c a = a
happens_main A setup fresh state (sends peer bytes) c a = a
happens_main A setup fresh state closes c a = closes_main A setup fresh state closes state.phase c a
happens_main A setup fresh state (responds from id authentic answer) c a = responded_main A setup fresh from id authentic answer state c a
happens_main A setup fresh state (gives from peer bytes) c a = a
happens_main A setup fresh state (gives_on from number bytes) c a = a
happens_main A setup fresh state (strays from) c a = a
happens_main A setup fresh state polls c a = polled_main A setup fresh state c a
