use Rattle.std.proofs.Common.{refl, subst}
use Rattle.turn_machine.specs.Events.{ticks, nothing}
use Rattle.turn_relays.specs.Relayed.{state_of}
use Rattle.turn_allocations.specs.Setups.{setup_of}
use Rattle.turn_allocations.specs.Tables.{Serving, IsStep}
use Rattle.turn_allocations.proofs.SteppingLemmas.{quiet, calm, stepped}
use Rattle.turn_allocations.proofs.allocations.Allocations.poll.Goals as goal

pub returns : goal.returns
returns g c = λ rules.
    let setup = setup_of c.self.inside.limits g.row.P g.row.C in
    let swept = c.sweep.new.relays in
    let done = quiet swept c.sweep.new.ended nothing in
    subst (λ (old : Serving). IsStep (setup_of old.limits g.row.P g.row.C) rules old c.args.now ticks nothing (record { limits = c.self.inside.limits; state = state_of swept; ended = c.sweep.new.ended.numbers })) c.self.view_is
    (stepped setup rules c.self.inside.limits c.self.inside.ended.numbers c.self.inside.relays swept swept c.self.inside.ended c.sweep.new.ended c.sweep.new.ended c.args.now ticks nothing
    c.sweep.ensures.left c.sweep.ensures.ended done refl (calm _ swept swept c.sweep.new.ended c.sweep.new.ended done refl))
