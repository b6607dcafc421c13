-- A session that may be restarted (RFC 8445, section 9), from datagrams to datagrams: the agent of the latest restart,
-- and the one before it, while data still goes by its pairs.
use Rattle.std.specs.Prelude.{◌≡◌, ℕ, Bool, true, false, not, ◌&&◌, ◌⊎◌, is_some, List, Option, None, Some, Result, Ok, Err, if◌then◌else◌}
use Rattle.std.specs.Option.{option_map}
use Rattle.stun_grammar.specs.declared.error.StunWriteError.{StunWriteError}
use Rattle.stun_grammar.specs.declared.error.StunWriteError.TheVariants.{OutOfMemory}
use Rattle.stun_endpoints.specs.declared.endpoints.Endpoint.{Endpoint}
use Rattle.ice_machine.specs.Events.{Output, asks, answers, data_to, data_from, nothing, arrives, polls, sends}
use Rattle.ice_agent_state.specs.Agents.{Held, output_at}
use Rattle.ice_agent_state.specs.Restarts.{data_or, is_replaced, older_data as held_data}
use Rattle.ice_checks.specs.declared.judged.Judged.{Judged}
use Rattle.ice_checks.specs.declared.judged.Judged.TheVariants.{Arrives, Strays, Refused, Responds, Checks}
use Rattle.ice_checks.specs.Judging.{event_of}
use Rattle.ice_agent.specs.declared.receiving.Received.{Received}
use Rattle.ice_agent.specs.declared.restarting.Session.{Session}
use Rattle.ice_agent.specs.declared.restarting.Taker.{Taker}
use Rattle.ice_agent.specs.declared.restarting.Taker.TheVariants.{Newer, Older, Both}
use Rattle.ice_agent.specs.declared.sending.Sending.{Sending}
use Rattle.ice_agent.specs.Agents.{Agent, passes}
use Rattle.ice_agent.specs.Receiving.{Receives, judged, received_as}
use Rattle.ice_agent.specs.Sending.{Polls, waited}

-- ---- The two agents

-- at a restart: the one that data goes by is kept, also if the restart before isn't over
abbrev pub kept : Agent → Option Agent → Agent
kept newer None = newer
kept newer (Some older) = older

abbrev pub restarted : Agent → Session → Session
restarted next session = record { newer = next; older = Some (kept session.newer session.older) }

-- once the newer one has a selected pair of each component of which the older one has one, the older one is dropped
abbrev pub left_of : (newer : Agent) → Option Agent → Option Agent
left_of newer None = None
left_of newer (Some older) = if is_replaced newer.held older.held then None else Some older

abbrev pub relieved : Session → Session
relieved session = record session { older = left_of session.newer session.older }

abbrev pub held_older : Option Agent → Option Held
held_older older = option_map (λ a. a.held) older

-- ---- Datagrams

-- a message is an agent's: a request with its fragment in the USERNAME, signed by its password, or a response to a
-- request that it waits for, signed by the peer's password
abbrev pub is_own : Judged → Bool
is_own (Checks check algorithm) = true
is_own (Responds id answer mapped) = true
is_own (Refused id refusal signed_by) = is_some signed_by
is_own (Strays id) = false
is_own Arrives = false

-- by what a datagram is for the newer one, and for the older one: which of them takes it. A message that is
-- neither's is the newer one's; data comes to both
abbrev pub message_taker : (newer older : Judged) → Taker
message_taker newer older = if is_own older && not (is_own newer) then Older else Newer

abbrev pub taker : (newer older : Judged) → Taker
taker Arrives older = Both
taker (Strays id) older = message_taker (Strays id) older
taker (Refused id refusal signed_by) older = message_taker (Refused id refusal signed_by) older
taker (Responds id answer mapped) older = message_taker (Responds id answer mapped) older
taker (Checks check algorithm) older = message_taker (Checks check algorithm) older

-- the two then
abbrev pub takes : Taker → (newer older : Judged) → (now fresh base : ℕ) → (from : Endpoint) → List ℕ
    → (newer older : Agent) → Session
takes Newer for_newer for_older now fresh base from d newer older =
    record { newer = received_as for_newer now fresh base from d newer; older = Some older }
takes Older for_newer for_older now fresh base from d newer older =
    record { newer = newer; older = Some (received_as for_older now fresh base from d older) }
takes Both for_newer for_older now fresh base from d newer older = record {
  newer = passes now 0 (arrives base from d) newer;
  older = Some (passes now 0 (arrives base from d) older);
}

abbrev pub received_by : (now fresh base : ℕ) → (from : Endpoint) → List ℕ → Agent → Option Agent → Session
received_by now fresh base from d newer None =
    record { newer = received_as (judged newer base from d) now fresh base from d newer; older = None }
received_by now fresh base from d newer (Some older) =
    let for_newer = judged newer base from d in let for_older = judged older base from d in
    takes (taker for_newer for_older) for_newer for_older now fresh base from d newer older

abbrev pub session_received : (now fresh base : ℕ) → (from : Endpoint) → List ℕ → Session → Session
session_received now fresh base from d session =
    received_by now fresh base from d session.newer session.older

-- data is shown by the newer one, or else by the older one
abbrev pub first_data : (newer older : Output) → Output
first_data (data_from component bytes) older = data_from component bytes
first_data (asks r) older = older
first_data (answers base to id answer) older = older
first_data (data_to base to bytes) older = older
first_data nothing older = older

abbrev pub data_at : (now base : ℕ) → (from : Endpoint) → List ℕ → (newer older : Agent) → Output
data_at now base from d newer older = first_data (output_at now 0 (arrives base from d) newer.held)
    (output_at now 0 (arrives base from d) older.held)

abbrev pub output_as : Judged → (now fresh base : ℕ) → (from : Endpoint) → List ℕ → Agent → Output
output_as judged now fresh base from d agent = output_at now fresh (event_of base from d judged) agent.held

-- what is returned, and what the caller's slice holds then
abbrev pub Returns : Taker → (newer older : Judged) → (now fresh base : ℕ) → (from : Endpoint) → List ℕ
    → (newer older : Agent) → (old new : List ℕ) → Result Received StunWriteError → Type 0
Returns Newer for_newer for_older now fresh base from d newer older old new result =
    Receives newer d for_newer (output_as for_newer now fresh base from d newer) old new result
Returns Older for_newer for_older now fresh base from d newer older old new result =
    Receives older d for_older (output_as for_older now fresh base from d older) old new result
Returns Both for_newer for_older now fresh base from d newer older old new result =
    Receives newer d Arrives (data_at now base from d newer older) old new result

abbrev pub ReturnsBy : (now fresh base : ℕ) → (from : Endpoint) → List ℕ → Agent → Option Agent
    → (old new : List ℕ) → Result Received StunWriteError → Type 0
ReturnsBy now fresh base from d newer None old new result =
    let for_newer = judged newer base from d in
    Receives newer d for_newer (output_as for_newer now fresh base from d newer) old new result
ReturnsBy now fresh base from d newer (Some older) old new result =
    let for_newer = judged newer base from d in let for_older = judged older base from d in
    Returns (taker for_newer for_older) for_newer for_older now fresh base from d newer older old new result

abbrev pub SessionReceives : (now fresh base : ℕ) → (from : Endpoint) → List ℕ → Session → (old new : List ℕ)
    → Result Received StunWriteError → Type 0
SessionReceives now fresh base from d session old new result =
    ReturnsBy now fresh base from d session.newer session.older old new result

-- ---- Requests are the newer one's, or else the older one's

abbrev pub request_at : (now id : ℕ) → Agent → Output
request_at now id agent = output_at now id polls agent.held

abbrev pub older_polled : (now id : ℕ) → Option Agent → Option Agent
older_polled now id older = option_map (λ a. passes now id polls a) older

-- the older one is polled only if the newer one sends none
abbrev pub older_after : (now id : ℕ) → (newer : Output) → Option Agent → Option Agent
older_after now id nothing older = older_polled now id older
older_after now id (asks r) older = older
older_after now id (answers base to request answer) older = older
older_after now id (data_to base to bytes) older = older
older_after now id (data_from component bytes) older = older

abbrev pub session_after : (now id : ℕ) → Session → Session
session_after now id session = record {
  newer = passes now id polls session.newer;
  older = older_after now id (request_at now id session.newer) session.older;
}

abbrev pub OlderPolls : (now id : ℕ) → Option Agent → (old new : List ℕ)
    → Result (Option Sending) StunWriteError → Type 0
OlderPolls now id None old new result = (result ≡ Ok None) × (new ≡ old)
OlderPolls now id (Some older) old new result = Polls older (request_at now id older) old new result

-- what a poll returns, and what the caller's slice holds then
abbrev pub FirstPolls : (now id : ℕ) → (newer : Output) → Session → (old new : List ℕ)
    → Result (Option Sending) StunWriteError → Type 0
FirstPolls now id nothing session old new result = OlderPolls now id session.older old new result
FirstPolls now id output session old new result = Polls session.newer output old new result

abbrev pub SessionPolls : (now id : ℕ) → Session → (old new : List ℕ)
    → Result (Option Sending) StunWriteError → Type 0
SessionPolls now id session old new result =
    FirstPolls now id (request_at now id session.newer) session old new result

-- without memory for a request of the older one, or of either: only time passes for that agent
abbrev pub IsOlderPolled : (now id : ℕ) → (old new : Option Agent) → (slice written : List ℕ)
    → Result (Option Sending) StunWriteError → Type 0
IsOlderPolled now id old new slice written result =
    ((new ≡ older_polled now id old) × OlderPolls now id old slice written result)
    ⊎ ((result ≡ Err OutOfMemory) × ((new ≡ option_map (waited now) old) × (written ≡ slice)))

abbrev pub SessionWaits : (now id : ℕ) → (old new : Session) → Type 0
SessionWaits now id old new = (new ≡ record old { newer = waited now old.newer })
    ⊎ ((request_at now id old.newer ≡ nothing) × (new ≡ record {
      newer = passes now id polls old.newer;
      older = option_map (waited now) old.older;
    }))

-- a poll of a session
abbrev pub IsSessionPolled : (now id : ℕ) → (old new : Session) → (slice written : List ℕ)
    → Result (Option Sending) StunWriteError → Type 0
IsSessionPolled now id old new slice written result =
    ((new ≡ session_after now id old) × SessionPolls now id old slice written result)
    ⊎ ((result ≡ Err OutOfMemory) × (SessionWaits now id old new × (written ≡ slice)))

-- ---- Data goes by the newer one's route, or else by the older one's

abbrev pub older_data : (now component : ℕ) → List ℕ → Option Agent → Output
older_data now component bytes older = held_data now component bytes (held_older older)

abbrev pub session_data : (now component : ℕ) → List ℕ → Session → Output
session_data now component bytes session = data_or
    (output_at now 0 (sends component bytes) session.newer.held)
    (older_data now component bytes session.older)

abbrev pub older_routed : (now component : ℕ) → List ℕ → Option Agent → Option Agent
older_routed now component bytes older = option_map (λ a. passes now 0 (sends component bytes) a) older
