use Rattle.std.proofs.Common.{◌∙◌, ap}
use Rattle.ice_machine.specs.Events.{sends}
use Rattle.ice_lite.specs.Agents.{State}
use Rattle.ice_agent.specs.Lite.{passes}
use Rattle.ice_agent.specs.contracts.lite.LiteAgent.{the_view}
use Rattle.ice_agent.proofs.lite.LiteAgent.route.Goals as goal

pub returns-in_err-base-clause-state : goal.returns-in_err-base-clause-state
returns-in_err-base-clause-state c bytes =
    ap (λ (s : State). the_view (record c.self.inside { state = s })) (c.route.ensures.state bytes)
    ∙ ap (passes c.args.now (sends c.args.component bytes)) c.self.view_is

pub returns-clause-state : goal.returns-clause-state
returns-clause-state c bytes =
    ap (λ (s : State). the_view (record c.self.inside { state = s })) (c.route.ensures.state bytes)
    ∙ ap (passes c.args.now (sends c.args.component bytes)) c.self.view_is
