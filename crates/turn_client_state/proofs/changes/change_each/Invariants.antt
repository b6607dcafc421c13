use Rattle.std.proofs.Common.{◌≡◌, ◌++◌, take, drop, map}
use Rattle.turn_client_machine.specs.declared.peers.Peer.{Peer}
use Rattle.turn_client_machine.specs.Responses.{changed_if}
use Rattle.turn_client_state.specs.Lookups.{test_of, changed_by}
use Rattle.turn_client_state.proofs.changes.change_each.Given as goal

abbrev pub invariant-loop-i : goal.invariant-loop-i
invariant-loop-i l = l.peers
    ≡ map {B = Peer} (changed_if (test_of l.sought) (changed_by l.by)) (take l.i l.initial.peers) ++ drop l.i l.initial.peers
