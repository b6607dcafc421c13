use Rattle.std.proofs.Common.{◌≡◌, ◌≤◌, length, drop}
use Rattle.stun_types.specs.Iterating.{shown_behind}
use Rattle.stun_types_c.proofs.attribute.skip.Given as goal

abbrev pub invariant-loop-more : goal.invariant-loop-more
invariant-loop-more l = record {
  behind : 20 ≤ l.at.offset;
  within : l.at.offset ≤ length l.bytes;
  same : drop l.more (shown_behind l.at.last l.at.offset l.bytes)
      ≡ drop l.fn.count (shown_behind l.fn.from.last l.fn.from.offset l.bytes);
}

abbrev pub decreases-loop-more : goal.decreases-loop-more
decreases-loop-more l = l.more
