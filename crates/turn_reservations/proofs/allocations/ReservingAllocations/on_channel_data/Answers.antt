use Rattle.std.proofs.Common.{[], sym, ap, ◌∙◌}
use Rattle.turn_machine.specs.Events.{sends_on}
use Rattle.turn_allocations.specs.declared.limits.Limits.{Limits}
use Rattle.turn_allocations.specs.Outputs.{sending}
use Rattle.turn_allocations.specs.Setups.{rules_of, setup_of}
use Rattle.turn_reservations.proofs.SteppingLemmas.{plainly}
use Rattle.turn_reservations.proofs.allocations.ReservingAllocations.on_channel_data.Goals as goal

pub invariant_of-self : goal.invariant_of-self
invariant_of-self g c = record {
  places = c.self.invariant.places ∙ ap (λ (l : Limits). l.reservations) (sym (c.on_channel_data.ensures []).limits_are);
}

pub returns : goal.returns
returns g c = λ bytes.
    let setup = λ (l : Limits). setup_of l g.row.P g.row.C in
    plainly setup (rules_of (g.A.PeerPolicy.allows_address c.args.policy.now) (g.A.PeerPolicy.allows_port c.args.policy.now)) c.args.self.now c.self.inside.allocations c.self.inside.held.held c.self.inside.held.over c.args.now (c.self.view_is ∙ c.sweep.ensures)
    c.on_channel_data.new.self (sends_on c.args.tuple.now c.args.channel bytes) (sending c.on_channel_data.result bytes) (c.on_channel_data.ensures bytes)
