use Rattle.std.proofs.Common.{◌<◌, ◌≤◌, List, filter, length, inl, inr, sym, subst, arith}
use Rattle.std.specs.Prelude.{◌==◌}
use Rattle.stun_endpoints.specs.declared.endpoints.Endpoint.{Endpoint}
use Rattle.turn_machine.specs.declared.grants.Permission.{Permission}
use Rattle.turn_machine.specs.Rows.{with_permissions}
use Rattle.turn_relays.specs.Relayed.{Grants}
use Rattle.turn_relays.specs.Granted.{AreDistinct}
use Rattle.turn_relays.proofs.DistinctLemmas.{either, distinct_all}
use Rattle.turn_relays.proofs.kept.Kept.permit.Goals as goal

pub invariant_of-self : goal.invariant_of-self
invariant_of-self g c =
    let peers = filter (λ (peer : Endpoint). peer.ip.family == c.args.family) c.args.peers.now in
    let room = subst (λ (z : Grants). length (with_permissions c.args.now (filter (λ (peer : Endpoint). peer.ip.family == c.args.family) c.args.peers.now) z.permissions) ≤ g.row.P) (sym c.self.view_is) c.requires.room in
    record {
      distinct = elim (either c.put_all.result) [
        | inl done ↦ subst AreDistinct (sym (c.put_all.ensures.done done)) (distinct_all c.args.now peers c.copy_of-permissions.result.items (subst AreDistinct (sym c.copy_of-permissions.ensures.same) c.self.invariant.distinct))
        | inr not_done ↦
            let full = subst (λ (ps : List Permission). g.row.P < length (with_permissions c.args.now (filter (λ (peer : Endpoint). peer.ip.family == c.args.family) c.args.peers.now) ps)) c.copy_of-permissions.ensures.same (c.put_all.ensures.full not_done) in
            absurd (omega (arith, room, full))
      ];
      permissions = c.self.invariant.permissions;
      channels = c.self.invariant.channels;
    }
