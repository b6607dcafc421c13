use Rattle.std.proofs.Common.{◌≡◌, ◌+◌, ◌∷◌, take}
use Rattle.arrayvec.specs.ArrayVec.{array_vec_len}
use Rattle.turn_client_messages.proofs.writing.with_others.Given as goal

abbrev pub invariant-loop-i : goal.invariant-loop-i
invariant-loop-i l = record {
  len : array_vec_len l.peers ≡ 1 + l.i;
  items : l.peers.items ≡ l.fn.peer ∷ take l.i l.others.items;
}
