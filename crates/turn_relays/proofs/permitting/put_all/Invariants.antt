use Rattle.std.proofs.Common.{◌≡◌, ◌≤◌, length, drop, filter}
use Rattle.std.specs.Prelude.{◌==◌}
use Rattle.turn_machine.specs.Rows.{with_permissions}
use Rattle.turn_relays.proofs.permitting.put_all.Given as goal

abbrev pub invariant-loop-at : goal.invariant-loop-at
invariant-loop-at g l = record {
  within : l.at ≤ length l.peers;
  fits : length l.permissions.items ≤ g.row.P;
  so_far : l.permissions.items
      ≡ with_permissions l.now (filter (λ peer. peer.ip.family == l.family) (drop l.at l.peers)) l.initial.permissions.items;
}

abbrev pub decreases-loop-at : goal.decreases-loop-at
decreases-loop-at g l = l.at
