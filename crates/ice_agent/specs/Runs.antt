-- Whole runs of an agent: the calls and the datagrams, the newest first.
use Rattle.std.specs.Prelude.{◌≡◌, ℕ, List, [], ◌∷◌, None}
use Rattle.ice_machine.specs.Events.{Event, meets}
use Rattle.ice_machine.specs.Runs.{Begin, Timed, begun}
use Rattle.stun_endpoints.specs.declared.endpoints.Endpoint.{Endpoint}
use Rattle.ice_checks.specs.Views.{Login}
use Rattle.ice_agent.specs.Agents.{Agent, met, passes}
use Rattle.ice_agent.specs.Receiving.{event_at, received}

-- the user, or time; the peer's credentials; or a datagram, at a base and from an address
pub data Call : Type 0 where
  calls : Event → Call
  learns_peer : Login → Call
  takes : (base : ℕ) → (from : Endpoint) → List ℕ → Call

-- a call, the caller's clock, and a random number: the transaction ID of a new request, or the tiebreaker after
-- a 487
pub record Moment : Type 0 where
  pub now : ℕ
  pub fresh : ℕ
  pub call : Call

abbrev pub stepped : Agent → (now fresh : ℕ) → Call → Agent
stepped agent now fresh (calls event) = passes now fresh event agent
stepped agent now fresh (learns_peer peer) = met now peer agent
stepped agent now fresh (takes base from d) = received now fresh base from d agent

abbrev pub after_all : Agent → List Moment → Agent
after_all agent [] = agent
after_all agent (m ∷ earlier) = stepped (after_all agent earlier) m.now m.fresh m.call

-- the event of the machine that a call is
abbrev pub event_in : Agent → Call → Event
event_in agent (calls event) = event
event_in agent (learns_peer peer) = meets
event_in agent (takes base from d) = event_at agent base from d

-- (credentials take no random number)
abbrev pub fresh_in : (fresh : ℕ) → Call → ℕ
fresh_in fresh (calls event) = fresh
fresh_in fresh (learns_peer peer) = 0
fresh_in fresh (takes base from d) = fresh

abbrev pub timed_at : Agent → Moment → Timed
timed_at agent m = record {
  now = m.now;
  fresh = fresh_in m.fresh m.call;
  event = event_in agent m.call;
}

abbrev pub timed_all : Agent → List Moment → List Timed
timed_all agent [] = []
timed_all agent (m ∷ earlier) = timed_at (after_all agent earlier) m ∷ timed_all agent earlier

-- an agent that hasn't been called yet, and doesn't know the peer's credentials
pub record IsBegun (begin : Begin) (agent : Agent) : Type 0 where
  pub state_is : agent.held.state ≡ begun begin
  pub unmet : agent.logins.peer ≡ None
