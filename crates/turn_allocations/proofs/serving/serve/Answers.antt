use Rattle.std.proofs.Common.{refl}
use Rattle.turn_slots.specs.Users.{user_number}
use Rattle.turn_relays.specs.Relayed.{state_of}
use Rattle.turn_allocations.specs.Setups.{rules_of, setup_of}
use Rattle.turn_allocations.proofs.ServingLemmas.{slow_from, refreshed_next, permitted_next, bound_next}
use Rattle.turn_allocations.proofs.serving.serve.Goals as goal

pub returns-in-Allocate-clause-serves : goal.returns-in-Allocate-clause-serves
returns-in-Allocate-clause-serves g c = rw c.in-Allocate.is (c.allocate.ensures.serves _ _ c.client_of-client.ensures)

pub returns-in-UnfitAllocate-clause-serves : goal.returns-in-UnfitAllocate-clause-serves
returns-in-UnfitAllocate-clause-serves g c = rw c.in-UnfitAllocate.is (c.refuse_allocate.ensures _ _ c.args.relays.now c.args.tuple.now (user_number c.args.user) c.args.ended.now c.client_of-client.ensures)

pub returns-in-Refresh-clause-serves : goal.returns-in-Refresh-clause-serves
returns-in-Refresh-clause-serves g c = rw c.in-Refresh.is (c.refresh.ensures.serves (setup_of c.args.limits.now g.row.P g.row.C) _ c.args.tuple.now refl c.client_of-client.ensures)

pub returns-in-Refresh-clause-slow : goal.returns-in-Refresh-clause-slow
returns-in-Refresh-clause-slow g c =
    let setup = setup_of c.args.limits.now g.row.P g.row.C in
    let rules = rules_of (g.A.PeerPolicy.allows_address c.args.policy.now) (g.A.PeerPolicy.allows_port c.args.policy.now) in
    slow_from setup rules c.args.tuple.now (user_number c.args.user) _ c.args.relays.now c.refresh.new.relays c.args.ended.now c.refresh.new.ended c.refresh.result
    (c.refresh.ensures.serves setup rules c.args.tuple.now refl c.client_of-client.ensures)
    (refreshed_next setup rules c.args.tuple.now (user_number c.args.user) (state_of c.args.relays.now) c.in-Refresh.family c.in-Refresh.lifetime)

pub returns-in-CreatePermission-clause-serves : goal.returns-in-CreatePermission-clause-serves
returns-in-CreatePermission-clause-serves g c = rw c.in-CreatePermission.is (c.permit.ensures.serves (setup_of c.args.limits.now g.row.P g.row.C) c.args.tuple.now c.args.ended.now refl c.client_of-client.ensures)

pub returns-in-CreatePermission-clause-slow : goal.returns-in-CreatePermission-clause-slow
returns-in-CreatePermission-clause-slow g c =
    let setup = setup_of c.args.limits.now g.row.P g.row.C in
    let rules = rules_of (g.A.PeerPolicy.allows_address c.args.policy.now) (g.A.PeerPolicy.allows_port c.args.policy.now) in
    slow_from setup rules c.args.tuple.now (user_number c.args.user) _ c.args.relays.now c.permit.new.relays c.args.ended.now c.args.ended.now c.permit.result
    (c.permit.ensures.serves setup c.args.tuple.now c.args.ended.now refl c.client_of-client.ensures)
    (permitted_next setup rules c.args.tuple.now (user_number c.args.user) (state_of c.args.relays.now) c.in-CreatePermission.peers.now)

pub returns-in-ChannelBind-clause-serves : goal.returns-in-ChannelBind-clause-serves
returns-in-ChannelBind-clause-serves g c = rw c.in-ChannelBind.is (c.bind.ensures.serves c.args.tuple.now c.args.ended.now c.client_of-client.ensures)

pub returns-in-ChannelBind-clause-slow : goal.returns-in-ChannelBind-clause-slow
returns-in-ChannelBind-clause-slow g c =
    let setup = setup_of c.args.limits.now g.row.P g.row.C in
    let rules = rules_of (g.A.PeerPolicy.allows_address c.args.policy.now) (g.A.PeerPolicy.allows_port c.args.policy.now) in
    slow_from setup rules c.args.tuple.now (user_number c.args.user) _ c.args.relays.now c.bind.new.relays c.args.ended.now c.args.ended.now c.bind.result
    (c.bind.ensures.serves c.args.tuple.now c.args.ended.now c.client_of-client.ensures)
    (bound_next setup rules c.args.tuple.now (user_number c.args.user) (state_of c.args.relays.now) c.in-ChannelBind.number c.in-ChannelBind.peer)

pub returns-in-Unfit-clause-serves : goal.returns-in-Unfit-clause-serves
returns-in-Unfit-clause-serves g c = rw c.in-Unfit.is (c.refuse.ensures _ _ c.args.relays.now c.args.tuple.now c.args.ended.now c.client_of-client.ensures)
