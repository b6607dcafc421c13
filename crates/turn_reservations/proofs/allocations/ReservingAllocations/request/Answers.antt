use Rattle.std.proofs.Common.{None, sym, ap, ◌∙◌, subst}
use Rattle.turn_slots.specs.Users.{user_number}
use Rattle.turn_machine.specs.Relays.{State}
use Rattle.turn_machine.specs.Events.{asks, answers}
use Rattle.turn_machine.specs.Times.{at}
use Rattle.turn_machine.specs.Reserving.{plain}
use Rattle.turn_allocations.specs.declared.limits.Limits.{Limits}
use Rattle.turn_allocations.specs.Answers.{answer_of}
use Rattle.turn_allocations.specs.Requests.{asked}
use Rattle.turn_allocations.specs.Setups.{rules_of, setup_of}
use Rattle.turn_reservations.specs.Calls.{IsOuterStep}
use Rattle.turn_reservations.proofs.SteppingLemmas.{with_held, state_is, plainly}
use Rattle.turn_reservations.proofs.allocations.ReservingAllocations.request.Goals as goal

pub invariant_of-self : goal.invariant_of-self
invariant_of-self g c = record {
  places = c.self.invariant.places ∙ ap (λ (l : Limits). l.reservations) (sym c.request.ensures.limits_are);
}

pub returns : goal.returns
returns g c =
    let setup = λ (l : Limits). setup_of l g.row.P g.row.C in
    let rules = rules_of (g.A.PeerPolicy.allows_address c.args.policy.now) (g.A.PeerPolicy.allows_port c.args.policy.now) in
    let old = c.args.self.now in
    let mid = c.self.inside.allocations in
    let held = c.self.inside.held in
    let sweeps = c.self.view_is ∙ c.sweep.ensures in
    let event = λ (s : State). asks c.args.tuple.now (user_number c.args.user) (asked (at c.args.now s) c.request.result c.args.request) in
    let output = answers c.args.tuple.now (answer_of c.request.result) in
    subst (λ (s : State). IsOuterStep (setup old.limits) rules old c.args.now (plain (event s)) output None (with_held c.request.new.self held.held held.over))
    (state_is setup rules old mid held.held held.over c.args.now sweeps)
    (plainly setup rules old mid held.held held.over c.args.now sweeps c.request.new.self (event mid.state) output c.request.ensures)
