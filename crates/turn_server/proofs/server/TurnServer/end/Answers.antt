use Rattle.std.proofs.Common.{None, subst}
use Rattle.turn_machine.specs.Events.{ends, nothing}
use Rattle.turn_allocations.specs.Setups.{setup_of}
use Rattle.turn_machine.specs.Reserving.{plain}
use Rattle.turn_reservations.specs.Calls.{Reserving, IsOuterStep}
use Rattle.turn_server.proofs.server.TurnServer.end.Goals as goal

pub returns : goal.returns
returns g c = λ rules.
    subst (λ (old : Reserving). IsOuterStep (setup_of old.limits g.row.P g.row.C) rules old c.args.now (plain (ends c.args.number)) nothing None c.end.new.self) c.self.view_is (c.end.ensures rules)
