-- One step of a lite agent: its next state and its output.
use Rattle.std.specs.Prelude.{ℕ, Bool, false, ◌&&◌, List, map, find, max, None, Some, ◌==◌, if◌then◌else◌}
use Rattle.std.specs.Option.{option_map, option_map_or}
use Rattle.stun_endpoints.specs.declared.endpoints.Endpoint.{Endpoint}
use Rattle.stun_endpoints.specs.Endpoints.{is_endpoint}
use Rattle.ice_machine.specs.declared.messages.Answer.TheVariants.{Accepted, Refused}
use Rattle.ice_machine.specs.declared.messages.Check.{Check}
use Rattle.ice_machine.specs.declared.roles.Role.{Role}
use Rattle.ice_machine.specs.declared.roles.Role.TheVariants.{Controlling, Controlled}
use Rattle.ice_machine.specs.Events.{Event, checks, strays, arrives, sends, Output, answers, data_to, data_from, nothing}
use Rattle.ice_machine.specs.Steps.{strayed}
use Rattle.ice_lite.specs.Agents.{LitePair, LiteCandidate, State, is_candidate, is_live}

pub record Step : Type 0 where
  pub state : State
  pub output : Output

-- a clock that steps back counts as stopped
abbrev pub at : ℕ → State → State
at now state = record state { clock = max state.clock now }

-- ---- Checks (7.3)

-- a check on the selected pair
abbrev pub renewed : (now : ℕ) → Check → LitePair → LitePair
renewed now c p = if is_endpoint c.from p.remote then record p { heard_at = now } else p

-- a check with USE-CANDIDATE selects its pair for the component (7.3.2)
abbrev pub nominated : (now : ℕ) → Check → LiteCandidate → LiteCandidate
nominated now c k = record k {
  selected = if is_candidate c.base k then Some (record { remote = c.from; heard_at = now }) else None;
}

abbrev pub refreshed : (now : ℕ) → Check → LiteCandidate → LiteCandidate
refreshed now c k =
    if is_candidate c.base k then record k { selected = option_map (renewed now c) k.selected } else k

-- a candidate of a component, after a check on the component
abbrev pub heard : (component now : ℕ) → Check → LiteCandidate → LiteCandidate
heard component now c k =
    if component == k.base.component
    then (if c.nominates then nominated now c k else refreshed now c k) else k

abbrev pub accepts : Check → State → LiteCandidate → Step
accepts c state k = record {
  state = record state {
    candidates = map {B = LiteCandidate} (heard k.base.component state.clock c) state.candidates;
  };
  output = answers c.base c.from c.id Accepted;
}

-- a lite agent is controlled (6.1.1), so that a peer which is controlled has to switch (7.3.1.1)
abbrev pub decides : Check → State → LiteCandidate → Role → Step
decides c state k Controlling = accepts c state k
decides c state k Controlled =
    record { state = state; output = answers c.base c.from c.id (Refused 487) }

-- ---- Data

-- from the selected pair
abbrev pub comes : (now : ℕ) → (from : Endpoint) → LitePair → Bool
comes now from p = is_endpoint from p.remote && is_live now p

abbrev pub received : (now : ℕ) → (from : Endpoint) → List ℕ → LiteCandidate → Output
received now from bytes k =
    if option_map_or (comes now from) k.selected false then data_from k.base.component bytes else nothing

-- to the selected pair
abbrev pub is_way : (now component : ℕ) → LiteCandidate → Bool
is_way now component k =
    (k.base.component == component) && option_map_or (is_live now) k.selected false

abbrev pub sent : List ℕ → LiteCandidate → Output
sent bytes k = option_map_or (λ p. data_to k.base.number p.remote bytes) k.selected nothing

-- ---- The step

abbrev pub does_nothing : State → Step
does_nothing state = record { state = state; output = nothing }

-- what isn't a check changes nothing; a request that isn't one is answered as a full agent does
abbrev pub happens : State → Event → Step
happens state (checks c) =
    option_map_or (λ k. decides c state k c.role) (find (is_candidate c.base) state.candidates)
    (does_nothing state)
happens state (strays base from id size code) =
    record { state = state; output = strayed base from id size code }
happens state (arrives base from bytes) = record {
  state = state;
  output = option_map_or (received state.clock from bytes) (find (is_candidate base) state.candidates) nothing;
}
happens state (sends component bytes) = record {
  state = state;
  output = option_map_or (sent bytes) (find (is_way state.clock component) state.candidates) nothing;
}
happens state _ = does_nothing state

abbrev pub step : State → (now : ℕ) → Event → Step
step state now event = happens (at now state) event
