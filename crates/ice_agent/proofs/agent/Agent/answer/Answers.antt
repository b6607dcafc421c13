use Rattle.std.proofs.Common.{◌∙◌, ap}
use Rattle.ice_machine.specs.Events.{checks}
use Rattle.ice_agent_state.specs.Agents.{Held}
use Rattle.ice_agent.specs.Agents.{passes}
use Rattle.ice_agent.specs.contracts.agent.Agent.{the_view}
use Rattle.ice_agent.proofs.agent.Agent.answer.Goals as goal

pub returns-clause-state : goal.returns-clause-state
returns-clause-state c =
    ap (λ (h : Held). the_view (record c.self.inside { state = h })) c.check.ensures.state
    ∙ ap (passes c.args.now 0 (checks c.args.check.now)) c.self.view_is
