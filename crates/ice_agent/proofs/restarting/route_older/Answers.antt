use Rattle.std.proofs.Common.{Option, Some, ap, ◌∙◌, sym}
use Rattle.ice_agent.specs.Agents.{Agent}
use Rattle.ice_agent.specs.Restarts.{older_routed}
use Rattle.ice_agent.proofs.restarting.route_older.Goals as goal

pub returns-in-Some-clause-state : goal.returns-in-Some-clause-state
returns-in-Some-clause-state c = λ bytes.
    ap (λ (z : Agent). Some z) (c.route.ensures.state bytes)
    ∙ sym (ap (λ (o : Option Agent). older_routed c.args.now c.args.component bytes o) c.in-Some.is)
