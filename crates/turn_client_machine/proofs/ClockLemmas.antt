-- A step leaves the clock as it is.
use Rattle.std.proofs.Common.{◌≡◌, ℕ, Bool, Option, None, Some, refl, ◌&&◌, find}
use Rattle.std.specs.List.{list_any}
use Rattle.std.specs.Option.{option_map_or}
use Rattle.std.specs.Prelude.{◌==◌, is_some}
use Rattle.std.proofs.lemmas.Bool.{cond_both}
use Rattle.turn_client_machine.specs.Clients.{Endpoint, is_endpoint, Setup, Kind, Allocate, Refresh, Delete, Permit, Bind, Request, Pending, Phase, Quiet, Asking, Allocated, Closing, Ended, Peer, State, is_allocated, is_active, Useless}
use Rattle.turn_client_machine.specs.Events.{Answer, Opened, Extended, Done, Refused, Challenged, Redirected, Violated, Event, allocates, permits, binds, drops, sends, closes, responds, gives, gives_on, strays, polls}
use Rattle.turn_client_machine.specs.Tasks.{awaits, may_retry, is_due, is_expired}
use Rattle.turn_client_machine.specs.Responses.{is_allocate, opened, extended, extended_by, answered, awaits_of, answered_peer, responded, deletes, is_long, is_useful}
use Rattle.turn_client_machine.specs.Steps.{Step, keeps, begins, closes_from, turns_peer, polled, happens, is_next, is_free}

abbrev Same : (clock : ℕ) → State → Type 0
Same clock s = s.clock ≡ clock

extended_clock : (kind : Kind) (r : Request) (lifetime : ℕ) (state : State) → Same state.clock (extended_by kind r lifetime state)
extended_clock Allocate r lifetime state = refl
extended_clock Refresh r lifetime state = cond_both (is_long lifetime) (extended r lifetime state) (deletes Useless state) (Same state.clock) (λ _. refl) (λ _. refl)
extended_clock Delete r lifetime state = refl
extended_clock (Permit peer) r lifetime state = refl
extended_clock (Bind number peer) r lifetime state = refl

answered_clock : (setup : Setup) (authentic : Bool) (answer : Answer) (state : State) (r : Request) → Same state.clock (answered setup authentic answer state r)
answered_clock setup authentic (Opened relayed mapped lifetime) state r =
    cond_both (authentic && is_allocate r.kind) _ _ (Same state.clock)
    (λ _. cond_both (is_useful setup relayed lifetime) (opened r relayed mapped lifetime state) (deletes Useless state) (Same state.clock) (λ _. refl) (λ _. refl)) (λ _. refl)
answered_clock setup authentic (Extended lifetime) state r = cond_both authentic _ _ (Same state.clock) (λ _. extended_clock r.kind r lifetime state) (λ _. refl)
answered_clock setup authentic Done state r = refl
answered_clock setup authentic (Refused code) state r = cond_both authentic _ _ (Same state.clock) (λ _. refl) (λ _. refl)
answered_clock setup authentic (Challenged code challenge) state r = cond_both (may_retry setup state.challenge code state.task) _ _ (Same state.clock) (λ _. refl) (λ _. refl)
answered_clock setup authentic (Redirected server) state r = cond_both (authentic && is_allocate r.kind) _ _ (Same state.clock) (λ _. refl) (λ _. refl)
answered_clock setup authentic Violated state r = cond_both setup.is_reliable _ _ (Same state.clock) (λ _. refl) (λ _. refl)

peer_clock : (setup : Setup) (id : ℕ) (authentic : Bool) (answer : Answer) (state : State) → Same state.clock (answered_peer setup id authentic answer state)
peer_clock setup id authentic (Opened relayed mapped lifetime) state = refl
peer_clock setup id authentic (Extended lifetime) state = refl
peer_clock setup id authentic Done state = cond_both authentic _ _ (Same state.clock) (λ _. refl) (λ _. refl)
peer_clock setup id authentic (Refused code) state =
    cond_both authentic _ _ (Same state.clock) (λ _. cond_both (code == 437) _ _ (Same state.clock) (λ _. refl) (λ _. refl)) (λ _. refl)
peer_clock setup id authentic (Challenged code challenge) state = refl
peer_clock setup id authentic (Redirected server) state = refl
peer_clock setup id authentic Violated state = refl

any_clock : (setup : Setup) (authentic : Bool) (answer : Answer) (state : State) (o : Option Pending) → Same state.clock (option_map_or (λ (q : Pending). answered setup authentic answer state q.request) o state)
any_clock setup authentic answer state None = refl
any_clock setup authentic answer state (Some q) = answered_clock setup authentic answer state q.request

responded_clock : (setup : Setup) (from : Endpoint) (id : ℕ) (authentic : Bool) (answer : Answer) (state : State) → Same state.clock (responded setup from id authentic answer state)
responded_clock setup from id authentic answer state =
    cond_both (is_endpoint from setup.server && is_active state.phase) _ _ (Same state.clock)
    (λ _. cond_both (awaits id state.task) _ _ (Same state.clock)
    (λ _. any_clock setup authentic answer state state.task.pending)
    (λ _. cond_both (is_allocated state.phase && list_any (awaits_of id) state.peers) _ _ (Same state.clock) (λ _. peer_clock setup id authentic answer state) (λ _. refl)))
    (λ _. refl)

turns_clock : (setup : Setup) (fresh : ℕ) (state : State) (o : Option Peer) → Same state.clock (option_map_or (turns_peer setup fresh (is_free state.peers) state) o (keeps state)).state
turns_clock setup fresh state None = refl
turns_clock setup fresh state (Some p) = refl

polled_clock : (setup : Setup) (fresh : ℕ) (state : State) → Same state.clock (polled setup fresh state).state
polled_clock setup fresh state =
    cond_both (is_active state.phase && is_due state.clock state.task) _ _ (λ (s : Step). Same state.clock s.state)
    (λ _. cond_both (is_expired state.clock state.task) _ _ (λ (s : Step). Same state.clock s.state) (λ _. refl) (λ _. refl))
    (λ _. cond_both (is_allocated state.phase) _ _ (λ (s : Step). Same state.clock s.state) (λ _. turns_clock setup fresh state (find (is_next (is_free state.peers) state.clock) state.peers)) (λ _. refl))

begins_clock : (phase : Phase) (state : State) → Same state.clock (begins phase state)
begins_clock Quiet state = refl
begins_clock Asking state = refl
begins_clock Allocated state = refl
begins_clock (Closing why) state = refl
begins_clock (Ended why) state = refl

closes_clock : (phase : Phase) (state : State) → Same state.clock (closes_from phase state)
closes_clock Quiet state = refl
closes_clock Asking state = cond_both (is_some state.challenge) _ _ (Same state.clock) (λ _. refl) (λ _. refl)
closes_clock Allocated state = refl
closes_clock (Closing why) state = refl
closes_clock (Ended why) state = refl

pub happens_clock : (setup : Setup) (fresh : ℕ) (state : State) (event : Event) → (happens setup fresh state event).state.clock ≡ state.clock
happens_clock setup fresh state allocates = begins_clock state.phase state
happens_clock setup fresh state (permits peer) = refl
happens_clock setup fresh state (binds peer) = refl
happens_clock setup fresh state (drops peer) = refl
happens_clock setup fresh state (sends peer bytes) = refl
happens_clock setup fresh state closes = closes_clock state.phase state
happens_clock setup fresh state (responds from id authentic answer) = responded_clock setup from id authentic answer state
happens_clock setup fresh state (gives from peer bytes) = refl
happens_clock setup fresh state (gives_on from number bytes) = refl
happens_clock setup fresh state (strays from) = refl
happens_clock setup fresh state polls = polled_clock setup fresh state
