-- Whole runs of a server, and their happenings, the newest first.
use Rattle.std.specs.Prelude.{ℕ, List, [], ◌∷◌}
use Rattle.turn_machine.specs.Relays.{Setup, Rules, State}
use Rattle.turn_machine.specs.Events.{Event, Output}
use Rattle.turn_machine.specs.Times.{at}
use Rattle.turn_machine.specs.Steps.{step}

-- an event, the caller's clock when it arrives, and the rules in force
pub record Timed : Type 0 where
  pub now : ℕ
  pub rules : Rules
  pub event : Event

-- an event, the moment that counts for it, and what was done
pub record Happening : Type 0 where
  pub moment : ℕ
  pub rules : Rules
  pub event : Event
  pub output : Output
  pub closes : List ℕ

abbrev pub initial_state : State
initial_state = record { clock = 0; next = 0; relays = [] }

abbrev pub run : Setup → List Timed → State
run setup [] = initial_state
run setup (timed ∷ earlier) =
    (step setup timed.rules (run setup earlier) timed.now timed.event).state

abbrev pub happening : Setup → State → Timed → Happening
happening setup state timed = record {
  moment = (at timed.now state).clock;
  rules = timed.rules;
  event = timed.event;
  output = (step setup timed.rules state timed.now timed.event).output;
  closes = (step setup timed.rules state timed.now timed.event).closes;
}

abbrev pub history : Setup → List Timed → List Happening
history setup [] = []
history setup (timed ∷ earlier) =
    happening setup (run setup earlier) timed ∷ history setup earlier
