-- The machine's state that a client in memory holds, its steps, and the outputs that a call's result
-- stands for.
use Rattle.std.specs.Prelude.{ℕ, ◌+◌, ◌-◌, ◌*◌, ◌^◌, ◌&&◌, List, min, nat_lt, find, Option, None, Some, if◌then◌else◌}
use Rattle.std.specs.List.{list_any}
use Rattle.std.specs.Option.{option_map_or}
use Rattle.stun_endpoints.specs.declared.endpoints.Endpoint.{Endpoint}
use Rattle.turn_machine.specs.Relays.{seconds}
use Rattle.turn_client_machine.specs.Clients.{Setup, State, is_allocated, is_active, is_permitted, has_channel}
use Rattle.turn_client_machine.specs.declared.requests.Request.{Request}
use Rattle.turn_client_machine.specs.declared.tasks.Pending.{Pending}
use Rattle.turn_client_machine.specs.declared.peers.Peer.{Peer}
use Rattle.turn_client_machine.specs.Events.{Event, Output, asks, send_to, send_on, shows, nothing}
use Rattle.turn_client_machine.specs.Tasks.{awaits}
use Rattle.turn_client_machine.specs.Responses.{awaits_of}
use Rattle.turn_client_machine.specs.Steps.{step}
use Rattle.turn_client_state.specs.declared.settings.Settings.{Settings}
use Rattle.turn_client_state.specs.declared.client.Status.{Status}
use Rattle.turn_client_state.specs.declared.polling.Asking.{Asking}
use Rattle.turn_client_state.specs.declared.data.Way.{Way}
use Rattle.turn_client_state.specs.declared.data.Way.TheVariants.{Channel, Indication}

-- the wait after the n-th sending of a request (RFC 8489, 6.2.1): the RTO, doubled each time, and
-- after the last one another
abbrev pub wait_after : Settings → (n : ℕ) → ℕ
wait_after s n = if nat_lt n s.most_sends then s.rto * 2 ^ min (n - 1) 32 else s.last_wait

-- the machine adds a nanosecond to each wait, so that it always has less to do after a poll
abbrev pub wait_less : Settings → (n : ℕ) → ℕ
wait_less s n = wait_after s n - 1

abbrev pub setup_of : Settings → Setup
setup_of s = record {
  server = s.server;
  family = s.family;
  is_reliable = s.is_reliable;
  most_peers = s.most_peers;
  most_named = min s.most_named 16;
  most_sends = s.most_sends;
  most_retries = s.most_retries;
  wait = wait_less s;
}

-- settings, and the state of the machine with them
pub record Held : Type 0 where
  pub settings : Settings
  pub state : State

-- after an event at a moment, with a random number
abbrev pub after : (now fresh : ℕ) → Event → Held → Held
after now fresh event held =
    record held { state = (step (setup_of held.settings) held.state now fresh event).state }

-- the output at an event
abbrev pub output_at : (now fresh : ℕ) → Event → Held → Output
output_at now fresh event held =
    (step (setup_of held.settings) held.state now fresh event).output

-- the end of a lifetime
abbrev pub end_of : (since lifetime : ℕ) → ℕ
end_of since lifetime = since + seconds lifetime

-- ---- Results

-- a request, if there is one, and the further peers that it names
abbrev pub asked_with : Option Request → (others : List Endpoint) → Output
asked_with None others = nothing
asked_with (Some r) others = asks r others

-- a request as it is returned
abbrev pub asking_with : Option Asking → Output
asking_with None = nothing
asking_with (Some a) = asks a.request a.others.items

-- the user's data to a peer, sent so, if there is a way
abbrev pub data_by : Endpoint → List ℕ → Option Way → Output
data_by peer bytes None = nothing
data_by peer bytes (Some (Channel number)) = send_on number bytes
data_by peer bytes (Some Indication) = send_to peer bytes

-- how data is sent to a peer: on its channel, if it has one, or in an indication, if the server permits
-- its IP address (RFC 8656, sections 11.1 and 12.5)
abbrev pub way_among : (clock : ℕ) → Endpoint → List Peer → Option Way
way_among clock address peers =
    option_map_or (λ p. Some (Channel p.number)) (find (has_channel clock address) peers)
    (if list_any (is_permitted clock address.ip) peers then Some Indication else None)

-- data, shown as a peer's, if there is one
abbrev pub shown_by : List ℕ → Option Endpoint → Output
shown_by bytes None = nothing
shown_by bytes (Some peer) = shows peer bytes

-- ---- Reads

abbrev pub status_of : State → Status
status_of state = record {
  phase = state.phase;
  relayed = state.relayed;
  mapped = state.mapped;
  expires_at = state.expires_at;
}

abbrev pub request_in : Option Pending → Option Request
request_in None = None
request_in (Some p) = Some p.request

abbrev pub request_for : Option Peer → Option Request
request_for None = None
request_for (Some p) = request_in p.task.pending

-- the request under way with this transaction ID, of the allocation or of a peer, to which the client
-- would accept a response
abbrev pub request_with : (id : ℕ) → State → Option Request
request_with id state =
    if is_active state.phase && awaits id state.task then request_in state.task.pending
    else (if is_allocated state.phase then request_for (find (awaits_of id) state.peers) else None)
