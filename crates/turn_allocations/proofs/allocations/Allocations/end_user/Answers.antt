use Rattle.std.proofs.Common.{refl, subst}
use Rattle.turn_slots.specs.Users.{user_number}
use Rattle.turn_machine.specs.Relays.{is_users}
use Rattle.turn_machine.specs.Events.{ends_user, nothing}
use Rattle.turn_machine.specs.Steps.{closing}
use Rattle.turn_relays.specs.Relayed.{state_of}
use Rattle.turn_allocations.specs.Setups.{setup_of}
use Rattle.turn_allocations.specs.Tables.{Serving, IsStep}
use Rattle.turn_allocations.proofs.SteppingLemmas.{calm, stepped}
use Rattle.turn_allocations.proofs.allocations.Allocations.end_user.Goals as goal

pub returns : goal.returns
returns g c = λ rules.
    let setup = setup_of c.self.inside.limits g.row.P g.row.C in
    let swept = c.sweep.new.relays in
    let done = c.end_users.ensures.done in
    subst (λ (old : Serving). IsStep (setup_of old.limits g.row.P g.row.C) rules old c.args.now (ends_user (user_number c.args.user)) nothing (record { limits = c.self.inside.limits; state = state_of c.end_users.new.relays; ended = c.end_users.new.ended.numbers })) c.self.view_is
    (stepped setup rules c.self.inside.limits c.self.inside.ended.numbers c.self.inside.relays swept c.end_users.new.relays c.self.inside.ended c.sweep.new.ended c.end_users.new.ended c.args.now (ends_user (user_number c.args.user)) nothing
    c.sweep.ensures.left c.sweep.ensures.ended done refl (calm (closing (is_users (user_number c.args.user)) nothing (state_of swept)) swept c.end_users.new.relays c.sweep.new.ended c.end_users.new.ended done refl))
