use Rattle.std.proofs.Common.{◌∙◌, refl, ap}
use Rattle.stun_endpoints.specs.declared.endpoints.Endpoint.{Endpoint}
use Rattle.ice_machine.specs.Events.{strays}
use Rattle.ice_agent_state.specs.Agents.{Held}
use Rattle.ice_agent.specs.Agents.{passes}
use Rattle.ice_agent.specs.contracts.agent.Agent.{the_view}
use Rattle.ice_agent.proofs.ReadyLemmas.{ready_stays}
use Rattle.ice_agent.proofs.agent.Agent.stray.Goals as goal

-- from anywhere
nowhere : Endpoint
nowhere = record { ip = record { family = 1; number = 0 }; port = 0 }

pub invariant_of-self : goal.invariant_of-self
invariant_of-self c =
    ap (λ (h : Held). h.state.ready) (c.refuse.ensures.state 0 0 nowhere)
    ∙ (ready_stays c.self.inside.state c.args.now 0 (strays 0 nowhere 0 c.args.size c.args.code) refl ∙ c.self.invariant)

pub returns-clause-state : goal.returns-clause-state
returns-clause-state c base id from =
    ap (λ (h : Held). the_view (record c.self.inside { state = h })) (c.refuse.ensures.state base id from)
    ∙ ap (passes c.args.now 0 (strays base from id c.args.size c.args.code)) c.self.view_is
