use Rattle.std.proofs.Common.{◌≡◌, ◌≤◌}
use Rattle.arrayvec.specs.ArrayVec.{array_vec_len}
use Rattle.turn_client_machine.specs.Steps.{joined, others_of}
use Rattle.turn_client_state.specs.States.{setup_of}
use Rattle.turn_client_state.proofs.peers.Peers.join_all.Given as goal

abbrev pub invariant-loop-i : goal.invariant-loop-i
invariant-loop-i l = record {
  list : l.self ≡ record l.fn.self { list = joined (setup_of l.settings) l.clock l.fresh l.fn.challenge l.i l.fn.self.list };
  others : l.others.items ≡ others_of (setup_of l.settings) l.clock l.fresh l.fn.challenge l.i l.fn.self.list;
  bound : array_vec_len l.others ≤ l.i;
}
