-- The machine's state that an agent in memory holds, and its steps.
use Rattle.std.specs.Prelude.{◌≡◌, ℕ, List, map, Bool, true, false, Result, Ok, Err}
use Rattle.ice_machine.specs.declared.pairs.Pair.{Pair}
use Rattle.ice_machine.specs.Agents.{Setup, State}
use Rattle.ice_machine.specs.Events.{Event, Output}
use Rattle.ice_machine.specs.Steps.{step, settled, at}
use Rattle.ice_agent_state.specs.declared.settings.Settings.{Settings}
use Rattle.ice_agent_state.specs.declared.candidates.AddError.{AddError}
use Rattle.ice_agent_state.specs.declared.candidates.AddError.TheVariants.{Full, InUse}

abbrev pub setup_of : Settings → Setup
setup_of s = record {
  most_pairs = s.most_pairs;
  most_candidates = s.most_candidates;
  most_requests = s.most_requests;
  ta = s.ta;
  rto = s.rto;
  most_tries = s.most_tries;
  patience = s.patience;
}

-- a setup, and the state of the machine with it
pub record Held : Type 0 where
  pub setup : Setup
  pub state : State

-- after an event at a moment, with a random number
abbrev pub after : (now fresh : ℕ) → Event → Held → Held
after now fresh event held =
    record held { state = (step held.setup held.state now fresh event).state }

-- the output at an event
abbrev pub output_at : (now fresh : ℕ) → Event → Held → Output
output_at now fresh event held = (step held.setup held.state now fresh event).output

-- when time has passed, and nothing else has happened
abbrev pub waited : (now : ℕ) → Held → Held
waited now held = record held { state = at held.setup now held.state }

-- what the adding of a candidate returns, by whether there is room, and whether there is such a candidate
abbrev pub added : (has_room has_it : Bool) → Result (Unit {0}) AddError
added false has_it = Err Full
added true true = Err InUse
added true false = Ok tt

-- time has been let pass in the state
abbrev pub IsSettled : Held → Type 0
IsSettled held = (ps : List Pair)
    × (held.state.pairs ≡ map {B = Pair} (settled held.setup held.state.clock) ps)
