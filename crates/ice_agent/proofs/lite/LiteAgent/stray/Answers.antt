use Rattle.std.proofs.Common.{◌∙◌, None, ap}
use Rattle.ice_machine.specs.Events.{strays}
use Rattle.ice_lite.specs.Agents.{State}
use Rattle.ice_agent.specs.Lite.{passes}
use Rattle.ice_agent.specs.contracts.lite.LiteAgent.{the_view}
use Rattle.ice_agent.proofs.lite.LiteAgent.stray.Goals as goal

pub returns : goal.returns
returns c base id from =
    ap (λ (s : State). the_view (record c.self.inside { state = s })) (c.refuse.ensures.state base id from)
    ∙ ap (passes c.args.now (strays base from id c.args.size None)) c.self.view_is
