-- One step of the client: the state after an event, and the output.
use Rattle.std.specs.Prelude.{ℕ, ◌+◌, Bool, true, false, not, ◌&&◌, ◌||◌, List, [], ◌∷◌, find, length, max, min, zero, suc, ◌-◌, map, ◌++◌, Option, None, Some, is_some, nat_lt, ◌==◌, if◌then◌else◌}
use Rattle.std.specs.List.{list_any}
use Rattle.std.specs.Option.{option_map_or, option_to_list}
use Rattle.turn_client_machine.specs.Clients.{Ip, Endpoint, is_ip, is_endpoint, seconds, Setup, Kind, Allocate, Refresh, Delete, Permit, Bind, End, Closed, Silent, Phase, Quiet, Asking, Allocated, Closing, Ended, Peer, State, Task, is_allocated, is_active, is_peer, is_dropped, is_rested, is_permitted, has_channel, hears, IntegrityViolated}
use Rattle.turn_client_machine.specs.Events.{Event, allocates, permits, binds, drops, sends, closes, responds, gives, gives_on, strays, polls, Output, send_to, send_on, shows, nothing}
use Rattle.turn_client_machine.specs.Tasks.{begun_task, is_due, is_expired, turned, turn_output}
use Rattle.turn_client_machine.specs.Responses.{changed_first, ends, deletes, restarted, given_up, responded}

pub record Step : Type 0 where
  pub state : State
  pub output : Output

-- The state at a moment. A clock that goes back counts as stopped
abbrev pub at : ℕ → State → State
at now state = record state { clock = max state.clock now }

abbrev pub keeps : State → Step
keeps state = record { state = state; output = nothing }

-- ---- The user

abbrev pub begins : Phase → State → State
begins Quiet state =
    record state { phase = Asking; task = begun_task state.clock; violated = false }
begins Asking state = state
begins Allocated state = state
begins (Closing why) state = state
begins (Ended why) state = state

-- the permission of a peer that isn't over is for its IP address
abbrev pub covers : Ip → Peer → Bool
covers ip p = not p.over && is_ip ip p.address.ip

-- there are 4096 channel numbers; a peer whose number has rested makes room
abbrev pub has_room : Setup → (clock : ℕ) → List Peer → Bool
has_room setup clock peers =
    list_any (is_rested clock) peers || nat_lt (length peers) (min setup.most_peers 4096)

-- a peer of another family than the allocation's would only be answered with 443 (10.2 and 12.2)
abbrev pub can_name : Setup → (clock : ℕ) → Endpoint → List Peer → Bool
can_name setup clock address peers =
    (address.ip.family == setup.family) && has_room setup clock peers

-- the channel number is the peer's place, so no two peers have the same
abbrev pub new_peer : (clock : ℕ) → (wants : Bool) → Endpoint → List Peer → Peer
new_peer clock wants address peers = record {
  address = address;
  number = 0x4000 + length peers;
  wants = wants;
  wanted = wants;
  over = false;
  code = 0;
  violated = false;
  shared = false;
  expires_at = 0;
  channel_expires_at = 0;
  task = begun_task clock;
  rests_until = None;
}

-- it takes the place of a peer whose number has rested
abbrev pub replaced : (clock : ℕ) → (wants : Bool) → Endpoint → Peer → Peer
replaced clock wants address p = record (new_peer clock wants address []) { number = p.number }

abbrev pub placed : (clock : ℕ) → (wants : Bool) → Endpoint → List Peer → List Peer
placed clock wants address peers =
    if list_any (is_rested clock) peers
    then changed_first (is_rested clock) (replaced clock wants address) peers
    else new_peer clock wants address peers ∷ peers

abbrev pub with_new : Setup → (clock : ℕ) → (wants : Bool) → Endpoint → List Peer → List Peer
with_new setup clock wants address peers =
    if can_name setup clock address peers then placed clock wants address peers else peers

abbrev pub permitted : Setup → (clock : ℕ) → Endpoint → List Peer → List Peer
permitted setup clock address peers =
    if list_any (covers address.ip) peers then peers else (
    if list_any (is_peer address) peers then changed_first (is_peer address) (restarted clock) peers
    else with_new setup clock false address peers)

-- the channel is asked for at once, and the permission lasts meanwhile
abbrev pub wanting : (clock : ℕ) → Peer → Peer
wanting clock p =
    if p.over then record (restarted clock p) { wants = true; wanted = true } else (
    if p.wants then p else record p {
      wants = true;
      wanted = true;
      violated = false;
      shared = false;
      task = record {
        due = min p.task.deadline clock;
        deadline = min p.task.deadline (clock + seconds 40);
        pending = None;
        retries = 0;
      };
    })

abbrev pub bound : Setup → (clock : ℕ) → Endpoint → List Peer → List Peer
bound setup clock address peers =
    if list_any (is_peer address) peers then changed_first (is_peer address) (wanting clock) peers
    else with_new setup clock true address peers

-- Nothing is asked for any more. If a channel was wanted, the number rests until the server has
-- surely forgotten it: a channel lasts for 600 seconds, and its number may go to another peer 5
-- minutes after that (12)
abbrev pub dropped : (clock : ℕ) → Peer → Peer
dropped clock p = record p {
  over = true;
  code = 0;
  violated = false;
  expires_at = 0;
  channel_expires_at = 0;
  task = record p.task { pending = None };
  rests_until = Some (if p.wanted then clock + seconds 900 else clock);
}

-- a peer that isn't dropped yet
abbrev pub is_listed : Endpoint → Peer → Bool
is_listed address p = is_peer address p && not (is_dropped p)

-- before a signed request was sent there is nothing to delete
abbrev pub closes_from : Phase → State → State
closes_from Quiet state = ends Closed state
closes_from Asking state =
    if is_some state.challenge
    then deletes Closed state else ends Closed state
closes_from Allocated state = deletes Closed state
closes_from (Closing why) state = state
closes_from (Ended why) state = state

-- ---- Data (11.1, 11.4 and 12.5 to 12.7)

abbrev pub is_ready : State → Bool
is_ready state = is_allocated state.phase && nat_lt state.clock state.expires_at

abbrev pub sent_by : Endpoint → List ℕ → State → Output
sent_by address bytes state =
    option_map_or (λ p. send_on p.number bytes) (find (has_channel state.clock address) state.peers)
    (if list_any (is_permitted state.clock address.ip) state.peers then send_to address bytes
    else nothing)

abbrev pub sent : Endpoint → List ℕ → State → Output
sent address bytes state = if is_ready state then sent_by address bytes state else nothing

abbrev pub given : Setup → (from peer : Endpoint) → List ℕ → State → Output
given setup from peer bytes state =
    if is_endpoint from setup.server && (is_allocated state.phase
    && list_any (is_permitted state.clock peer.ip) state.peers)
    then shows peer bytes else nothing

abbrev pub given_on : Setup → (from : Endpoint) → (number : ℕ) → List ℕ → State → Output
given_on setup from number bytes state =
    if is_endpoint from setup.server && is_allocated state.phase
    then option_map_or (λ p. shows p.address bytes)
    (find (hears state.clock number state.peers) state.peers) nothing else nothing

-- ---- Polls: one thing at a time, the allocation first

abbrev pub kind_in : Phase → Kind
kind_in Quiet = Allocate
kind_in Asking = Allocate
kind_in Allocated = Refresh
kind_in (Closing why) = Delete
kind_in (Ended why) = Delete

abbrev pub silent_in : (violated : Bool) → Phase → End
silent_in violated Quiet = Silent
silent_in violated Asking = if violated then IntegrityViolated else Silent
silent_in violated Allocated = if violated then IntegrityViolated else Silent
silent_in violated (Closing why) = why
silent_in violated (Ended why) = why

abbrev pub turns : Setup → (fresh : ℕ) → State → Step
turns setup fresh state =
    if is_expired state.clock state.task
    then keeps (ends (silent_in state.violated state.phase) state)
    else record {
      state = record state {
        task = turned setup state.clock fresh (kind_in state.phase) state.challenge state.task;
      };
      output = turn_output setup state.clock fresh (kind_in state.phase) state.challenge []
          state.task;
    }

abbrev pub is_due_of : (clock : ℕ) → Peer → Bool
is_due_of clock p = not p.over && is_due clock p.task

-- the number of elements that pass a test
abbrev pub counted : {X : Type 0} → (X → Bool) → List X → ℕ
counted test [] = 0
counted test (x ∷ xs) = if test x then 1 + counted test xs else counted test xs

abbrev pub is_under_way : Peer → Bool
is_under_way p = is_some p.task.pending

-- the request under way names other peers too; or it is for this peer alone
abbrev pub is_together : Peer → Bool
is_together p = is_under_way p && p.shared

abbrev pub is_single : Peer → Bool
is_single p = is_under_way p && not p.shared

-- At most ten requests are under way at once (RFC 8489, 6.2): one for the allocation, one that names
-- several peers, and eight for single peers. A new request for another peer waits
abbrev pub is_free : List Peer → Bool
is_free peers = nat_lt (counted is_single peers) 8

abbrev pub is_next : (free : Bool) → (clock : ℕ) → Peer → Bool
is_next free clock p =
    (free || (is_single p || is_expired clock p.task)) && is_due_of clock p

abbrev pub kind_of : Peer → Kind
kind_of p = if p.wants then Bind p.number p.address else Permit p.address

-- A request that names several peers is sent once. If no response comes, each of them is asked for
-- alone, with a request of its own
abbrev pub own_task : Peer → Task
own_task p = record p.task { pending = if p.shared then None else p.task.pending }

abbrev pub turned_of : (shared : Bool) → Setup → (clock fresh : ℕ) → (challenge : Option ℕ) → Peer
    → Peer
turned_of shared setup clock fresh challenge p =
    if is_expired clock p.task then given_up 0 p
    else record p {
      task = turned setup clock fresh (kind_of p) challenge (own_task p);
      shared = shared;
    }

abbrev pub output_of : Setup → (clock fresh : ℕ) → (challenge : Option ℕ)
    → (others : List Endpoint) → Peer → Output
output_of setup clock fresh challenge others p =
    if is_expired clock p.task then nothing
    else turn_output setup clock fresh (kind_of p) challenge others (own_task p)

-- ---- Several peers in one CreatePermission request (10.1)

-- a permission that is due within 30 seconds may be asked for together with others, unless a request
-- that named several peers was refused
abbrev pub is_fit : (clock : ℕ) → Peer → Bool
is_fit clock p =
    not (is_under_way p) && (not (p.wants || p.shared)
    && (not (is_expired clock p.task) && is_due_of (clock + seconds 30) p))

-- whether the request for this peer names others too: no other such request is under way
abbrev pub takes_along : Setup → (clock : ℕ) → List Peer → Peer → Bool
takes_along setup clock peers p =
    (is_fit clock p && nat_lt 1 (counted (is_fit clock) peers))
    && ((nat_lt 0 setup.most_sends && nat_lt 1 setup.most_named)
    && not (list_any is_together peers))

-- the most further peers that it names
abbrev pub most_others : Setup → (along : Bool) → ℕ
most_others setup along = if along then setup.most_named - 1 else 0

-- the first n that are fit are asked for with it; and their addresses
abbrev pub joined : Setup → (clock fresh : ℕ) → (challenge : Option ℕ) → (n : ℕ) → List Peer
    → List Peer
joined setup clock fresh challenge zero peers = peers
joined setup clock fresh challenge (suc n) peers =
    changed_first (is_fit clock) (turned_of true setup clock fresh challenge)
    (joined setup clock fresh challenge n peers)

abbrev pub others_of : Setup → (clock fresh : ℕ) → (challenge : Option ℕ) → (n : ℕ) → List Peer
    → List Endpoint
others_of setup clock fresh challenge zero peers = []
others_of setup clock fresh challenge (suc n) peers =
    others_of setup clock fresh challenge n peers
    ++ map {B = Endpoint} (λ p. p.address)
    (option_to_list (find (is_fit clock) (joined setup clock fresh challenge n peers)))

-- ---- A peer's turn

abbrev pub turned_first : Setup → (fresh : ℕ) → (free along : Bool) → State → List Peer
turned_first setup fresh free along state =
    changed_first (is_next free state.clock)
    (turned_of along setup state.clock fresh state.challenge) state.peers

abbrev pub others_at : Setup → (fresh : ℕ) → (free along : Bool) → State → List Endpoint
others_at setup fresh free along state =
    others_of setup state.clock fresh state.challenge (most_others setup along)
    (turned_first setup fresh free along state)

abbrev pub turns_with : Setup → (fresh : ℕ) → (free along : Bool) → State → Peer → Step
turns_with setup fresh free along state p = record {
  state = record state {
    peers = joined setup state.clock fresh state.challenge (most_others setup along)
        (turned_first setup fresh free along state);
  };
  output = output_of setup state.clock fresh state.challenge
      (others_at setup fresh free along state) p;
}

abbrev pub turns_peer : Setup → (fresh : ℕ) → (free : Bool) → State → Peer → Step
turns_peer setup fresh free state p =
    turns_with setup fresh free (takes_along setup state.clock state.peers p) state p

abbrev pub peers_polled : Setup → (fresh : ℕ) → (free : Bool) → State → Step
peers_polled setup fresh free state =
    option_map_or (turns_peer setup fresh free state)
    (find (is_next free state.clock) state.peers) (keeps state)

abbrev pub polled : Setup → (fresh : ℕ) → State → Step
polled setup fresh state =
    if is_active state.phase && is_due state.clock state.task then turns setup fresh state
    else (if is_allocated state.phase
    then peers_polled setup fresh (is_free state.peers) state else keeps state)

-- ---- The step

abbrev pub happens : Setup → (fresh : ℕ) → State → Event → Step
happens setup fresh state allocates = keeps (begins state.phase state)
happens setup fresh state (permits peer) =
    keeps (record state { peers = permitted setup state.clock peer state.peers })
happens setup fresh state (binds peer) =
    keeps (record state { peers = bound setup state.clock peer state.peers })
happens setup fresh state (drops peer) =
    keeps (record state {
      peers = changed_first (is_listed peer) (dropped state.clock) state.peers;
    })
happens setup fresh state (sends peer bytes) =
    record { state = state; output = sent peer bytes state }
happens setup fresh state closes = keeps (closes_from state.phase state)
happens setup fresh state (responds from id authentic answer) =
    keeps (responded setup from id authentic answer state)
happens setup fresh state (gives from peer bytes) =
    record { state = state; output = given setup from peer bytes state }
happens setup fresh state (gives_on from number bytes) =
    record { state = state; output = given_on setup from number bytes state }
happens setup fresh state (strays from) = keeps state
happens setup fresh state polls = polled setup fresh state

abbrev pub step : Setup → State → (now fresh : ℕ) → Event → Step
step setup state now fresh event = happens setup fresh (at now state) event
