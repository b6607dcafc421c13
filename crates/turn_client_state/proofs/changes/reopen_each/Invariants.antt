use Rattle.std.proofs.Common.{◌≡◌, ◌++◌, take, drop, map}
use Rattle.turn_client_machine.specs.declared.peers.Peer.{Peer}
use Rattle.turn_client_machine.specs.Responses.{reopened}
use Rattle.turn_client_state.proofs.changes.reopen_each.Given as goal

abbrev pub invariant-loop-i : goal.invariant-loop-i
invariant-loop-i l = l.peers
    ≡ map {B = Peer} (reopened l.clock) (take l.i l.initial.peers) ++ drop l.i l.initial.peers
