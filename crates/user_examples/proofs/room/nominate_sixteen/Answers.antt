use Rattle.std.proofs.Common.{◌≡◌, ◌+◌, ◌-◌, arith}
use Rattle.user_examples.proofs.room.nominate_sixteen.Goals as goal

pub loop-left-preserved : goal.loop-left-preserved
loop-left-preserved g c =
    let one_less : c.loop-left.left - 1 + 1 ≡ c.loop-left.left = omega arith in
    record {
      size = omega arith;
      most = omega arith;
      room = c.add_within_room.ensures.room (c.loop-left.left - 1) (rw one_less c.loop-left.invariant.room);
    }
