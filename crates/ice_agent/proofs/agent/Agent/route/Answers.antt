use Rattle.std.proofs.Common.{◌∙◌, refl, ap, []}
use Rattle.ice_machine.specs.Events.{sends}
use Rattle.ice_agent_state.specs.Agents.{Held}
use Rattle.ice_agent.specs.Agents.{passes}
use Rattle.ice_agent.specs.contracts.agent.Agent.{the_view}
use Rattle.ice_agent.proofs.ReadyLemmas.{ready_stays}
use Rattle.ice_agent.proofs.agent.Agent.route.Goals as goal

pub invariant_of-self : goal.invariant_of-self
invariant_of-self c = ap (λ (h : Held). h.state.ready) (c.route.ensures.state []) ∙ (ready_stays c.self.inside.state c.args.now 0 (sends c.args.component []) refl ∙ c.self.invariant)

pub returns-clause-state : goal.returns-clause-state
returns-clause-state c bytes =
    ap (λ (h : Held). the_view (record c.self.inside { state = h })) (c.route.ensures.state bytes)
    ∙ ap (passes c.args.now 0 (sends c.args.component bytes)) c.self.view_is
