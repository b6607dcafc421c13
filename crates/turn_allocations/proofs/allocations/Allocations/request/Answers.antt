use Rattle.std.proofs.Common.{sym, subst}
use Rattle.turn_slots.specs.Users.{user_number}
use Rattle.turn_machine.specs.Relays.{State}
use Rattle.turn_machine.specs.Events.{asks, answers}
use Rattle.turn_machine.specs.Times.{at}
use Rattle.turn_relays.specs.Relayed.{state_of}
use Rattle.turn_allocations.specs.Answers.{answer_of}
use Rattle.turn_allocations.specs.Requests.{asked}
use Rattle.turn_allocations.specs.Setups.{rules_of, setup_of}
use Rattle.turn_allocations.specs.Tables.{Serving, IsStep}
use Rattle.turn_allocations.proofs.SteppingLemmas.{stepped}
use Rattle.turn_allocations.proofs.allocations.Allocations.request.Goals as goal

pub returns : goal.returns
returns g c =
    let setup = setup_of c.self.inside.limits g.row.P g.row.C in
    let rules = rules_of (g.A.PeerPolicy.allows_address c.args.policy.now) (g.A.PeerPolicy.allows_port c.args.policy.now) in
    let user = user_number c.args.user in
    let swept = c.sweep.new.relays in
    let new : Serving = record { limits = c.self.inside.limits; state = state_of c.serve.new.relays; ended = c.serve.new.ended.numbers } in
    let output = answers c.args.tuple.now (answer_of c.serve.result) in
    subst (λ (old : Serving). IsStep (setup_of old.limits g.row.P g.row.C) rules old c.args.now (asks c.args.tuple.now user (asked (at c.args.now old.state) c.serve.result c.args.request)) output new) c.self.view_is
    (subst (λ (s : State). IsStep setup rules (record { limits = c.self.inside.limits; state = state_of c.self.inside.relays; ended = c.self.inside.ended.numbers }) c.args.now (asks c.args.tuple.now user (asked s c.serve.result c.args.request)) output new) c.sweep.ensures.left.state_is
    (stepped setup rules c.self.inside.limits c.self.inside.ended.numbers c.self.inside.relays swept c.serve.new.relays c.self.inside.ended c.sweep.new.ended c.serve.new.ended c.args.now (asks c.args.tuple.now user (asked (state_of swept) c.serve.result c.args.request)) output
    c.sweep.ensures.left c.sweep.ensures.ended c.serve.ensures.serves.done (sym c.serve.ensures.serves.answered) c.serve.ensures.slow))
