use Rattle.std.proofs.Common.{◌≤◌, ◌*◌, ◌-◌, length}
use Rattle.stun_types.specs.Iterating.{shown_behind}
use Rattle.stun_types_c.proofs.WalksLemmas.{Listed}
use Rattle.stun_types_c.proofs.attribute.list_from.Given as goal

abbrev pub invariant-loop-found : goal.invariant-loop-found
invariant-loop-found l = record {
  within : l.at.offset ≤ length l.bytes;
  few : 4 * l.count ≤ l.at.offset;
  listed : Listed (shown_behind l.fn.from.last l.fn.from.offset l.bytes)
      (shown_behind l.at.last l.at.offset l.bytes) l.count l.attributes l.initial.attributes;
}

abbrev pub decreases-loop-found : goal.decreases-loop-found
decreases-loop-found l = length l.bytes - l.at.offset
