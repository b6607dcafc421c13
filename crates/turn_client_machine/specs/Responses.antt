-- The state after a response (RFC 8656, 7.3, 7.4, 8.3, 10.3 and 12.3; RFC 8489, 9.2.5 and 10). A
-- response whose integrity isn't right is dropped, unless it is a 401 or 438, which servers send
-- unsigned.
use Rattle.std.specs.Prelude.{ℕ, ◌+◌, Bool, true, false, ◌&&◌, ◌||◌, not, List, [], ◌∷◌, map, Option, None, Some, min, nat_le, ◌==◌, if◌then◌else◌}
use Rattle.std.specs.List.{list_any}
use Rattle.std.specs.Option.{option_map_or}
use Rattle.turn_client_machine.specs.Clients.{Endpoint, is_endpoint, is_dropped, seconds, Setup, Kind, Allocate, Refresh, Delete, Permit, Bind, Request, End, Closed, Rejected, Moved, Useless, Phase, Quiet, Asking, Allocated, Closing, Ended, Peer, State, is_allocated, is_active, IntegrityViolated}
use Rattle.turn_client_machine.specs.Events.{Answer, Opened, Extended, Done, Refused, Challenged, Redirected, Violated}
use Rattle.turn_client_machine.specs.Tasks.{begun_task, kept_task, again_task, awaits, may_retry}

abbrev pub changed_first : {X : Type 0} → (X → Bool) → (X → X) → List X → List X
changed_first test change [] = []
changed_first test change (x ∷ xs) =
    if test x then change x ∷ xs else x ∷ changed_first test change xs

-- each element that passes a test is changed
abbrev pub changed_if : {X : Type 0} → (X → Bool) → (X → X) → X → X
changed_if test change x = if test x then change x else x

abbrev pub changed_each : {X : Type 0} → (X → Bool) → (X → X) → List X → List X
changed_each {X = X} test change xs = map {B = X} (changed_if test change) xs

abbrev pub is_allocate : Kind → Bool
is_allocate Allocate = true
is_allocate Refresh = false
is_allocate Delete = false
is_allocate (Permit peer) = false
is_allocate (Bind number peer) = false

abbrev pub is_delete : Kind → Bool
is_delete Allocate = false
is_delete Refresh = false
is_delete Delete = true
is_delete (Permit peer) = false
is_delete (Bind number peer) = false

abbrev pub ends : End → State → State
ends why state = record state { phase = Ended why }

-- the client deletes the allocation (8.1), and then ends for this reason
abbrev pub deletes : End → State → State
deletes why state =
    record state { phase = Closing why; task = begun_task state.clock; violated = false }

-- why a client ends once its allocation is deleted
abbrev pub reason_in : Phase → End
reason_in Quiet = Closed
reason_in Asking = Closed
reason_in Allocated = Closed
reason_in (Closing why) = why
reason_in (Ended why) = why

-- ---- The allocation

-- the permission is to be asked for from the start
abbrev pub restarted : (clock : ℕ) → Peer → Peer
restarted clock p = record p {
  over = false;
  shared = false;
  violated = false;
  expires_at = 0;
  channel_expires_at = 0;
  rests_until = None;
  task = begun_task clock;
}

-- a peer that was dropped stays dropped
abbrev pub reopened : (clock : ℕ) → Peer → Peer
reopened clock p =
    record (restarted clock p) { over = p.over && is_dropped p; rests_until = p.rests_until }

-- A lifetime counts from when the request was first sent: the server handled it no earlier
abbrev pub opened : (r : Request) → (relayed mapped : Endpoint) → (lifetime : ℕ) → State → State
opened r relayed mapped lifetime state = record state {
  phase = Allocated;
  relayed = relayed;
  mapped = mapped;
  expires_at = r.since + seconds lifetime;
  task = kept_task r.since lifetime;
  violated = false;
  peers = map {B = Peer} (reopened state.clock) state.peers;
}

abbrev pub extended : (r : Request) → (lifetime : ℕ) → State → State
extended r lifetime state = record state {
  expires_at = r.since + seconds lifetime;
  task = kept_task r.since lifetime;
  violated = false;
}

-- A lifetime of less than 80 seconds can't be kept up: between half of it and the deadline, 20
-- seconds before its end, are less than 20 seconds
abbrev pub is_long : (lifetime : ℕ) → Bool
is_long lifetime = nat_le 80 lifetime

-- nor can a relayed address of another family than the client asked for be used (7.3)
abbrev pub is_useful : Setup → (relayed : Endpoint) → (lifetime : ℕ) → Bool
is_useful setup relayed lifetime = is_long lifetime && (relayed.ip.family == setup.family)

-- an allocation of no use is deleted
abbrev pub if_useful : Bool → State → State → State
if_useful useful after state = if useful then after else deletes Useless state

abbrev pub extended_by : Kind → (r : Request) → (lifetime : ℕ) → State → State
extended_by Allocate r lifetime state = state
extended_by Refresh r lifetime state =
    if_useful (is_long lifetime) (extended r lifetime state) state
extended_by Delete r lifetime state = ends (reason_in state.phase) state
extended_by (Permit peer) r lifetime state = state
extended_by (Bind number peer) r lifetime state = state

-- An error to the request that deletes the allocation ends the client as its success does (8.3)
abbrev pub answered : Setup → (authentic : Bool) → Answer → State → (r : Request) → State
answered setup authentic (Opened relayed mapped lifetime) state r =
    if authentic && is_allocate r.kind
    then if_useful (is_useful setup relayed lifetime) (opened r relayed mapped lifetime state) state
    else state
answered setup authentic (Extended lifetime) state r =
    if authentic then extended_by r.kind r lifetime state else state
answered setup authentic Done state r = state
answered setup authentic (Refused code) state r =
    if authentic
    then ends (if is_delete r.kind then reason_in state.phase else Rejected code) state else state
answered setup authentic (Challenged code challenge) state r =
    if may_retry setup state.challenge code state.task
    then record state {
      challenge = Some challenge;
      task = again_task state.clock state.task;
      violated = false;
    }
    else ends (Rejected code) state
answered setup authentic (Redirected server) state r =
    if authentic && is_allocate r.kind then ends (Moved server) state else state
answered setup authentic Violated state r =
    if setup.is_reliable
    then ends (if is_delete r.kind then reason_in state.phase else IntegrityViolated) state
    else record state { violated = true }

-- ---- A peer

abbrev pub granted_by : (r : Request) → Kind → Peer → Peer
granted_by r Allocate p = p
granted_by r Refresh p = p
granted_by r Delete p = p
granted_by r (Permit peer) p = record p {
  expires_at = r.since + seconds 300;
  task = kept_task r.since 300;
  shared = false;
  violated = false;
}
granted_by r (Bind number peer) p = record p {
  expires_at = r.since + seconds 300;
  channel_expires_at = r.since + seconds 600;
  task = kept_task r.since 300;
  shared = false;
  violated = false;
}

abbrev pub granted : Peer → Peer
granted p = option_map_or (λ q. granted_by q.request q.request.kind p) p.task.pending p

abbrev pub given_up : (code : ℕ) → Peer → Peer
given_up code p = record p { over = true; code = code; task = record p.task { pending = None } }

-- If a channel is refused, the client asks for a permission instead. If a request that named other
-- peers too is refused, any of them may be the reason (10.2), so the client asks for each alone. But it
-- sends no request for the peer any more if the server refuses the credentials (7.4; RFC 8489, 9.2.5)
abbrev pub asks_instead : (code : ℕ) → Peer → Bool
asks_instead code p = (p.wants || p.shared) && not ((code == 401) || (code == 438))

abbrev pub turned_down : (clock code : ℕ) → Peer → Peer
turned_down clock code p =
    if asks_instead code p then record p {
      wants = false;
      violated = false;
      task = record p.task { due = min p.task.deadline clock; pending = None };
    } else given_up code p

abbrev pub challenged : Setup → (challenge : Option ℕ) → (clock code : ℕ) → Peer → Peer
challenged setup challenge clock code p =
    if may_retry setup challenge code p.task
    then record p { task = again_task clock p.task; violated = false; shared = false }
    else given_up code p

-- A response with a wrong integrity is dropped over an unreliable transport, and noted; over a
-- reliable one it ends the transaction (RFC 8489, 9.2.5)
abbrev pub noted : Peer → Peer
noted p = record p { violated = true }

abbrev pub violated_by : Setup → Peer → Peer
violated_by setup p = if setup.is_reliable then given_up 0 (noted p) else noted p

abbrev pub awaits_of : (id : ℕ) → Peer → Bool
awaits_of id p = awaits id p.task

-- each peer that the request names
abbrev pub with_peers : (id : ℕ) → (Peer → Peer) → State → State
with_peers id change state =
    record state { peers = changed_each (awaits_of id) change state.peers }

-- The response to a request for peers. 437: the server has no such allocation
abbrev pub answered_peer : Setup → (id : ℕ) → (authentic : Bool) → Answer → State → State
answered_peer setup id authentic (Opened relayed mapped lifetime) state = state
answered_peer setup id authentic (Extended lifetime) state = state
answered_peer setup id authentic Done state =
    if authentic then with_peers id granted state else state
answered_peer setup id authentic (Refused code) state =
    if authentic then (if code == 437 then ends (Rejected 437) state
    else with_peers id (turned_down state.clock code) state) else state
answered_peer setup id authentic (Challenged code challenge) state =
    with_peers id (challenged setup state.challenge state.clock code)
    (record state { challenge = Some challenge })
answered_peer setup id authentic (Redirected server) state = state
answered_peer setup id authentic Violated state = with_peers id (violated_by setup) state

-- ---- By the request that it answers

abbrev pub answered_any : Setup → (id : ℕ) → (authentic : Bool) → Answer → State → State
answered_any setup id authentic answer state =
    if awaits id state.task
    then option_map_or (λ p. answered setup authentic answer state p.request)
    state.task.pending state
    else (if is_allocated state.phase && list_any (awaits_of id) state.peers
    then answered_peer setup id authentic answer state else state)

abbrev pub responded : Setup → (from : Endpoint) → (id : ℕ) → (authentic : Bool) → Answer → State
    → State
responded setup from id authentic answer state =
    if is_endpoint from setup.server && is_active state.phase
    then answered_any setup id authentic answer state else state
