use Rattle.std.proofs.Common.{◌∙◌, Some, ap, length}
use Rattle.ice_machine.specs.Events.{strays}
use Rattle.ice_lite.specs.Agents.{State}
use Rattle.ice_agent.specs.Lite.{LiteAgent, passes}
use Rattle.ice_agent.specs.contracts.lite.LiteAgent.{the_view}
use Rattle.ice_agent.proofs.lite.LiteAgent.refuse.Goals as goal

pub returns-clause-state : goal.returns-clause-state
returns-clause-state c base from =
    ap (λ (s : State). the_view (record c.self.inside { state = s })) (c.refuse.ensures.state base c.args.id from)
    ∙ (ap (λ (a : LiteAgent). passes c.args.now (strays base from c.args.id (length c.args.datagram.now) (Some c.code.result)) a) c.self.view_is
    ∙ ap (λ code. passes c.args.now (strays base from c.args.id (length c.args.datagram.now) (Some code)) c.args.self.now) c.code.ensures)
