use Rattle.std.proofs.Common.{◌-◌, ◌<◌, List, filter, drop, length, get_or, subst, eq-eqb}
use Rattle.std.specs.Prelude.{◌==◌}
use Rattle.turn_machine.specs.declared.grants.Permission.{Permission}
use Rattle.turn_machine.specs.Rows.{with_permission}
use Rattle.turn_relays.proofs.DistinctLemmas.{drop_passes, full_stays}
use Rattle.turn_relays.proofs.permitting.put_all.Goals as goal

pub returns-then-not-put-clause-full : goal.returns-then-not-put-clause-full
returns-then-not-put-clause-full g c _ =
    let f = c.put.ensures.full c.if-not-put.true in
    let passes = drop_passes (λ peer. peer.ip.family == c.args.family) c.args.peers.now c.loop-at.at _ c.loop-at-test.true c.loop-at.invariant.within (eq-eqb _ _ c.if-ip-family.false) in
    full_stays g.row.P c.args.now (λ peer. peer.ip.family == c.args.family) c.args.peers.now (c.loop-at.at - 1) _ (filter (λ peer. peer.ip.family == c.args.family) (drop c.loop-at.at c.args.peers.now)) c.args.permissions.now.items c.requires.distinct passes
    (subst (λ (ps : List Permission). g.row.P < length (with_permission c.args.now (get_or c.args.peers.now (c.loop-at.at - 1) (record { ip = record { family = 0; number = 0 }; port = 0 })).ip ps)) c.loop-at.invariant.so_far f)
