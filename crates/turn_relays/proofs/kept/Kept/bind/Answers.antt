use Rattle.std.proofs.Common.{◌≤◌, length, inl, inr, sym, subst, arith}
use Rattle.turn_machine.specs.Rows.{with_permission_for}
use Rattle.turn_relays.specs.Relayed.{Grants}
use Rattle.turn_relays.specs.Granted.{AreDistinct}
use Rattle.turn_relays.proofs.DistinctLemmas.{either, distinct_with}
use Rattle.turn_relays.proofs.kept.Kept.bind.Goals as goal

pub invariant_of-self : goal.invariant_of-self
invariant_of-self g c =
    let room = subst (λ (z : Grants). length (with_permission_for c.args.permission_seconds c.args.now c.args.peer.ip z.permissions) ≤ g.row.P) (sym c.self.view_is) c.requires.permissions in
    record {
      distinct = elim (either c.put.result) [
        | inl done ↦ subst AreDistinct (sym (c.put.ensures.done done)) (distinct_with c.args.permission_seconds c.args.now c.args.peer.ip c.self.inside.permissions.items c.self.invariant.distinct)
        | inr not_done ↦ let full = c.put.ensures.full not_done in absurd (omega (arith, room, full))
      ];
      permissions = c.self.invariant.permissions;
      channels = c.self.invariant.channels;
    }
