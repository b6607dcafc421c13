-- A lite agent that speaks bytes, and its whole runs (RFC 8445, sections 2.5 and 7.3.2).
use Rattle.std.specs.Prelude.{ℕ, false, List, [], ◌∷◌, None}
use Rattle.stun_endpoints.specs.declared.endpoints.Endpoint.{Endpoint}
use Rattle.ice_machine.specs.Events.{Event, Output, sends}
use Rattle.ice_lite.specs.Agents.{State}
use Rattle.ice_lite.specs.declared.candidates.LiteBase.{LiteBase}
use Rattle.ice_lite.specs.Runs as machine
use Rattle.ice_lite.specs.Steps.{step}
use Rattle.ice_checks.specs.declared.judged.Judged.{Judged}
use Rattle.ice_checks.specs.Judging.{event_of, judge}
use Rattle.ice_checks.specs.Views.{Login, Logins}

-- the machine, and the credentials of this side
pub record LiteAgent : Type 0 where
  pub state : State
  pub own : Login

-- of a USERNAME the first part alone counts (7.3)
abbrev pub logins : Login → Logins
logins own = record { own = own; peer = None }

-- what a datagram is: no response is waited for
abbrev pub judged : LiteAgent → (base : ℕ) → (from : Endpoint) → List ℕ → Judged
judged agent base from d = judge (logins agent.own) (λ id. false) base from d

abbrev pub event_at : LiteAgent → (base : ℕ) → (from : Endpoint) → List ℕ → Event
event_at agent base from d = event_of base from d (judged agent base from d)

-- the agent after an event, and the output
abbrev pub passes : (now : ℕ) → Event → LiteAgent → LiteAgent
passes now event agent = record agent { state = (step agent.state now event).state }

abbrev pub output_at : (now : ℕ) → Event → LiteAgent → Output
output_at now event agent = (step agent.state now event).output

abbrev pub begun : Login → List LiteBase → LiteAgent
begun own bases = record { state = machine.begun bases; own = own }

-- ---- Runs

-- data of the user, of a component; or a datagram, at a base and from an address
pub data Call : Type 0 where
  routes : (component : ℕ) → List ℕ → Call
  takes : (base : ℕ) → (from : Endpoint) → List ℕ → Call

pub record Moment : Type 0 where
  pub now : ℕ
  pub call : Call

-- the event that a call is
abbrev pub event_in : LiteAgent → Call → Event
event_in agent (routes component bytes) = sends component bytes
event_in agent (takes base from d) = event_at agent base from d

abbrev pub after_all : LiteAgent → List Moment → LiteAgent
after_all agent [] = agent
after_all agent (m ∷ earlier) =
    passes m.now (event_in (after_all agent earlier) m.call) (after_all agent earlier)

abbrev pub timed_all : LiteAgent → List Moment → List machine.Timed
timed_all agent [] = []
timed_all agent (m ∷ earlier) =
    record { now = m.now; event = event_in (after_all agent earlier) m.call } ∷ timed_all agent earlier
