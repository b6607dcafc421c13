use Rattle.std.proofs.Common.{refl, sym, subst}
use Rattle.turn_machine.specs.Events.{sends_on}
use Rattle.turn_machine.specs.Data.{relayed}
use Rattle.turn_relays.specs.Relayed.{state_of}
use Rattle.turn_allocations.specs.Outputs.{sending}
use Rattle.turn_allocations.specs.Setups.{rules_of, setup_of}
use Rattle.turn_allocations.specs.Tables.{Serving, IsStep}
use Rattle.turn_allocations.proofs.SteppingLemmas.{quiet, calm, stepped}
use Rattle.turn_allocations.proofs.allocations.Allocations.on_channel_data.Goals as goal

pub returns : goal.returns
returns g c = λ bytes.
    let setup = setup_of c.self.inside.limits g.row.P g.row.C in
    let rules = rules_of (g.A.PeerPolicy.allows_address c.args.policy.now) (g.A.PeerPolicy.allows_port c.args.policy.now) in
    let t = c.self.inside.relays in
    let swept = c.sweep.new.relays in
    let done = quiet swept c.sweep.new.ended (relayed setup rules (state_of swept) (sends_on c.args.tuple.now c.args.channel bytes)) in
    subst (λ (old : Serving). IsStep (setup_of old.limits g.row.P g.row.C) rules old c.args.now (sends_on c.args.tuple.now c.args.channel bytes) (sending c.send_on.result bytes) (record { limits = c.self.inside.limits; state = state_of swept; ended = c.sweep.new.ended.numbers })) c.self.view_is
    (stepped setup rules c.self.inside.limits c.self.inside.ended.numbers t swept swept c.self.inside.ended c.sweep.new.ended c.sweep.new.ended c.args.now (sends_on c.args.tuple.now c.args.channel bytes) (sending c.send_on.result bytes)
    c.sweep.ensures.left c.sweep.ensures.ended done (sym (c.send_on.ensures setup bytes)) (calm _ swept swept c.sweep.new.ended c.sweep.new.ended done refl))
