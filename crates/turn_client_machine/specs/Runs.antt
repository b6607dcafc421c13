-- Whole runs of a client, and their happenings, the newest first.
use Rattle.std.specs.Prelude.{false, ℕ, List, [], ◌∷◌, ◌⊎◌, None}
use Rattle.turn_client_machine.specs.Clients.{Setup, Quiet, State}
use Rattle.turn_client_machine.specs.Events.{Event, Output}
use Rattle.turn_client_machine.specs.Tasks.{begun_task}
use Rattle.turn_client_machine.specs.Steps.{at, step}

-- an event, the caller's clock when it arrives, and a random transaction ID for a new request
pub record Timed : Type 0 where
  pub now : ℕ
  pub fresh : ℕ
  pub event : Event

-- an event, the moment that counts for it, and the output
pub record Happening : Type 0 where
  pub moment : ℕ
  pub event : Event
  pub output : Output

abbrev pub begun : Setup → State
begun setup = record {
  clock = 0;
  phase = Quiet;
  challenge = None;
  task = begun_task 0;
  violated = false;
  relayed = setup.server;
  mapped = setup.server;
  expires_at = 0;
  peers = [];
}

abbrev pub run : Setup → List Timed → State
run setup [] = begun setup
run setup (timed ∷ earlier) =
    (step setup (run setup earlier) timed.now timed.fresh timed.event).state

abbrev pub happening : Setup → State → Timed → Happening
happening setup state timed = record {
  moment = (at timed.now state).clock;
  event = timed.event;
  output = (step setup state timed.now timed.fresh timed.event).output;
}

abbrev pub history : Setup → List Timed → List Happening
history setup [] = []
history setup (timed ∷ earlier) =
    happening setup (run setup earlier) timed ∷ history setup earlier

-- some happening has the property
abbrev pub Happened : (Happening → Type 0) → List Happening → Type 0
Happened P [] = ⊥
Happened P (h ∷ earlier) = P h ⊎ Happened P earlier
