-- The events of an agent, and its outputs. The bytes of a datagram have been read and judged: which
-- event it is, another definition says.
use Rattle.std.specs.Prelude.{ℕ, List, Option}
use Rattle.stun_endpoints.specs.declared.endpoints.Endpoint.{Endpoint}
use Rattle.ice_machine.specs.Agents.{Base, Remote, Request}
pub use Rattle.ice_machine.specs.declared.messages.Check.{Check}
pub use Rattle.ice_machine.specs.declared.messages.Answer.{Answer}
pub use Rattle.ice_machine.specs.declared.messages.Answer.TheVariants.{Accepted, Refused}

-- From the caller: a base; a candidate of the peer; the peer's username fragment and password are
-- known; no more candidates of either side follow. From a datagram: an authentic check; a response that
-- is authentic under the peer's password; any other STUN message, with its size and the code of the
-- error that it is answered with, if it is; any other datagram. The user's data; and time
pub data Event : Type 0 where
  gathers : Base → Event
  learns : Remote → Event
  meets : Event
  ends : Event
  checks : Check → Event
  responds : (base : ℕ) → (from : Endpoint) → (id : ℕ) → Answer → Event
  strays : (base : ℕ) → (from : Endpoint) → (id size : ℕ) → (code : Option ℕ) → Event
  arrives : (base : ℕ) → (from : Endpoint) → List ℕ → Event
  sends : (component : ℕ) → List ℕ → Event
  polls : Event

-- At most one output for one event: a request of this agent; a response; data to the peer; the peer's
-- data to the user; or nothing
pub data Output : Type 0 where
  asks : Request → Output
  answers : (base : ℕ) → (to : Endpoint) → (id : ℕ) → Answer → Output
  data_to : (base : ℕ) → (to : Endpoint) → List ℕ → Output
  data_from : (component : ℕ) → List ℕ → Output
  nothing : Output
