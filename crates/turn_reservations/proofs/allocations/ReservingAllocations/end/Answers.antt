use Rattle.std.proofs.Common.{true, sym, ap, ◌∙◌}
use Rattle.turn_machine.specs.Events.{ends, nothing}
use Rattle.turn_allocations.specs.declared.limits.Limits.{Limits}
use Rattle.turn_allocations.specs.Setups.{setup_of}
use Rattle.turn_reservations.proofs.SteppingLemmas.{plainly}
use Rattle.turn_reservations.proofs.allocations.ReservingAllocations.end.Goals as goal

pub invariant_of-self : goal.invariant_of-self
invariant_of-self g c = record {
  places = c.self.invariant.places ∙ ap (λ (l : Limits). l.reservations) (sym (c.end.ensures (record { allows_ip = λ ip. true; allows_port = λ peer. true })).limits_are);
}

pub returns : goal.returns
returns g c = λ rules.
    let setup = λ (l : Limits). setup_of l g.row.P g.row.C in
    plainly setup rules c.args.self.now c.self.inside.allocations c.self.inside.held.held c.self.inside.held.over c.args.now (c.self.view_is ∙ c.sweep.ensures)
    c.end.new.self (ends c.args.number) nothing (c.end.ensures rules)
