-- Whole runs of an agent, and their happenings, the newest first.
use Rattle.std.specs.Prelude.{ℕ, List, [], ◌∷◌, ◌⊎◌, false}
use Rattle.ice_machine.specs.Roles.{Role}
use Rattle.ice_machine.specs.Agents.{Setup, State}
use Rattle.ice_machine.specs.Events.{Event, Output}
use Rattle.ice_machine.specs.Steps.{at, step}

-- the role and the tiebreaker that an agent starts with
pub record Begin : Type 0 where
  pub role : Role
  pub tiebreaker : ℕ

-- an event, the caller's clock when it arrives, and a random number
pub record Timed : Type 0 where
  pub now : ℕ
  pub fresh : ℕ
  pub event : Event

-- an event, the moment that counts for it, and its output
pub record Happening : Type 0 where
  pub moment : ℕ
  pub event : Event
  pub output : Output

abbrev pub begun : Begin → State
begun b = record {
  clock = 0;
  role = b.role;
  tiebreaker = b.tiebreaker;
  ready = false;
  ended = false;
  bases = [];
  remotes = [];
  pairs = [];
  requests = [];
  next_request_at = 0;
}

abbrev pub run : Setup → Begin → List Timed → State
run setup b [] = begun b
run setup b (timed ∷ earlier) =
    (step setup (run setup b earlier) timed.now timed.fresh timed.event).state

abbrev pub happening : Setup → State → Timed → Happening
happening setup state timed = record {
  moment = (at setup timed.now state).clock;
  event = timed.event;
  output = (step setup state timed.now timed.fresh timed.event).output;
}

abbrev pub history : Setup → Begin → List Timed → List Happening
history setup b [] = []
history setup b (timed ∷ earlier) =
    happening setup (run setup b earlier) timed ∷ history setup b earlier

-- some happening satisfies P
abbrev pub Happened : (Happening → Type 0) → List Happening → Type 0
Happened P [] = ⊥
Happened P (h ∷ earlier) = P h ⊎ Happened P earlier
