use Rattle.std.proofs.Common.{◌≡◌, ◌≤◌, ◌-◌, length}
use Rattle.stun_types.specs.Iterating.{shown_behind}
use Rattle.stun_types_c.specs.Attributes.{first_of_type}
use Rattle.stun_types_c.proofs.attribute.find_from.Given as goal

abbrev pub invariant-loop-found : goal.invariant-loop-found
invariant-loop-found l =
    (l.at.offset ≤ length l.bytes)
    × (first_of_type l.atype (shown_behind l.at.last l.at.offset l.bytes)
    ≡ first_of_type l.atype (shown_behind l.fn.from.last l.fn.from.offset l.bytes))

abbrev pub decreases-loop-found : goal.decreases-loop-found
decreases-loop-found l = length l.bytes - l.at.offset
