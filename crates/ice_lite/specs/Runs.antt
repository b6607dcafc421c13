-- Whole runs of a lite agent, and their happenings, the newest first.
use Rattle.std.specs.Prelude.{ℕ, List, [], ◌∷◌, map, None}
use Rattle.ice_machine.specs.Events.{Event}
use Rattle.ice_machine.specs.Runs.{Happening}
use Rattle.ice_lite.specs.Agents.{LiteBase, LiteCandidate, State}
use Rattle.ice_lite.specs.Steps.{at, step}

-- an event, and the caller's clock when it arrives
pub record Timed : Type 0 where
  pub now : ℕ
  pub event : Event

abbrev pub unselected : LiteBase → LiteCandidate
unselected b = record { base = b; selected = None }

abbrev pub begun : List LiteBase → State
begun bases = record { clock = 0; candidates = map {B = LiteCandidate} unselected bases }

abbrev pub run : List LiteBase → List Timed → State
run bases [] = begun bases
run bases (timed ∷ earlier) = (step (run bases earlier) timed.now timed.event).state

abbrev pub happening : State → Timed → Happening
happening state timed = record {
  moment = (at timed.now state).clock;
  event = timed.event;
  output = (step state timed.now timed.event).output;
}

abbrev pub history : List LiteBase → List Timed → List Happening
history bases [] = []
history bases (timed ∷ earlier) = happening (run bases earlier) timed ∷ history bases earlier
