use Rattle.std.proofs.Common.{None, subst}
use Rattle.turn_slots.specs.Users.{user_number}
use Rattle.turn_machine.specs.Events.{ends_user, nothing}
use Rattle.turn_allocations.specs.Setups.{setup_of}
use Rattle.turn_machine.specs.Reserving.{plain}
use Rattle.turn_reservations.specs.Calls.{Reserving, IsOuterStep}
use Rattle.turn_server.proofs.server.TurnServer.end_user.Goals as goal

pub returns : goal.returns
returns g c = λ rules.
    subst (λ (old : Reserving). IsOuterStep (setup_of old.limits g.row.P g.row.C) rules old c.args.now (plain (ends_user (user_number c.args.user))) nothing None c.end_user.new.self) c.self.view_is (c.end_user.ensures rules)
