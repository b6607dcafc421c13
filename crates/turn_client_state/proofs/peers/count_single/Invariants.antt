use Rattle.std.proofs.Common.{◌≡◌, ◌≤◌, take, reverse}
use Rattle.turn_client_machine.specs.Steps.{counted, is_single}
use Rattle.turn_client_state.proofs.peers.count_single.Given as goal

abbrev pub invariant-loop-i : goal.invariant-loop-i
invariant-loop-i l = record {
  count : l.count ≡ counted is_single (reverse (take l.i l.peers));
  bound : l.count ≤ l.i;
}
