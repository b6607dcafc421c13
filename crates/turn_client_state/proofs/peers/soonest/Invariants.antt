use Rattle.std.proofs.Common.{◌≡◌, take, reverse}
use Rattle.turn_client_state.specs.Waking.{soonest}
use Rattle.turn_client_state.proofs.peers.soonest.Given as goal

abbrev pub invariant-loop-i : goal.invariant-loop-i
invariant-loop-i l = l.wake ≡ soonest l.free (reverse (take l.i l.peers))
