use Rattle.std.proofs.Common.{◌∙◌, ap}
use Rattle.ice_machine.specs.Events.{arrives}
use Rattle.ice_lite.specs.Agents.{State}
use Rattle.ice_agent.specs.Lite.{passes}
use Rattle.ice_agent.specs.contracts.lite.LiteAgent.{the_view}
use Rattle.ice_agent.proofs.lite.LiteAgent.arrive.Goals as goal

pub returns-clause-state : goal.returns-clause-state
returns-clause-state c bytes =
    ap (λ (s : State). the_view (record c.self.inside { state = s })) (c.receive.ensures.state bytes)
    ∙ ap (passes c.args.now (arrives c.args.base c.args.from bytes)) c.self.view_is
