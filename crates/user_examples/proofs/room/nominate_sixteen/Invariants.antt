use Rattle.std.proofs.Common.{◌≡◌, ◌+◌, ◌*◌, ◌≤◌, length}
use Rattle.user_examples.specs.Room.{HasReady}
use Rattle.user_examples.proofs.room.nominate_sixteen.Given as goal

-- all are added but those left, and there is room for these
abbrev pub invariant-loop-left : goal.invariant-loop-left
invariant-loop-left g l = record {
  size : length (g.B.MessageWrite.state l.message).bytes + 4 * l.left ≡ 84;
  most : l.left ≤ 16;
  room : HasReady (g.B.MessageWrite.state l.message) l.left;
}

abbrev pub decreases-loop-left : goal.decreases-loop-left
decreases-loop-left g l = l.left
