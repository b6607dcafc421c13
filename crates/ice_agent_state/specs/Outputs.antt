-- The outputs of the machine that a call's result stands for.
use Rattle.std.specs.Prelude.{ℕ, List, Option, None, Some}
use Rattle.stun_endpoints.specs.declared.endpoints.Endpoint.{Endpoint}
use Rattle.ice_machine.specs.declared.messages.Request.{Request}
use Rattle.ice_machine.specs.declared.messages.Check.{Check}
use Rattle.ice_machine.specs.declared.messages.Answer.{Answer}
use Rattle.ice_machine.specs.Roles.{RoleDecision, keep, switch, refuse}
use Rattle.ice_agent_state.specs.declared.checking.Decision.{Decision}
use Rattle.ice_agent_state.specs.declared.checking.Decision.TheVariants.{Keep, Switch, Refuse}
use Rattle.ice_machine.specs.Events.{Output, asks, answers, data_to, data_from, nothing}
use Rattle.ice_agent_state.specs.declared.routing.Route.{Route}

-- the user's data, sent by a route, if there is one
abbrev pub data_by : List ℕ → Option Route → Output
data_by bytes None = nothing
data_by bytes (Some route) = data_to route.base route.to bytes

-- a request, if there is one
abbrev pub asked_with : Option Request → Output
asked_with None = nothing
asked_with (Some r) = asks r

-- the response to a check, if there is one
abbrev pub answered_with : Check → Option Answer → Output
answered_with c None = nothing
answered_with c (Some answer) = answers c.base c.from c.id answer

-- the error response to a message that isn't authentic, if there is one
abbrev pub refused_with : (base : ℕ) → Endpoint → (id : ℕ) → Option Answer → Output
refused_with base from id None = nothing
refused_with base from id (Some answer) = answers base from id answer

-- the peer's data, of a component, if it is of one
abbrev pub data_of : List ℕ → Option ℕ → Output
data_of bytes None = nothing
data_of bytes (Some component) = data_from component bytes

abbrev pub decision_of : Decision → RoleDecision
decision_of Keep = keep
decision_of Switch = switch
decision_of Refuse = refuse
