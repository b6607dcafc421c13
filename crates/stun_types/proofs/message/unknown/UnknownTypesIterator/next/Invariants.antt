use Rattle.std.proofs.Common.{◌≡◌, length}
use Rattle.stun_types.specs.Iterating.{items_left}
use Rattle.stun_types.specs.UnknownTypes.{types_left}
use Rattle.stun_types.proofs.message.unknown.UnknownTypesIterator.next.Given as goal

-- those so far aren't unknown
abbrev pub invariant-walk : goal.invariant-walk
invariant-walk l = types_left l.self ≡ types_left l.initial.self

abbrev pub decreases-walk : goal.decreases-walk
decreases-walk l = length (items_left l.self.attributes)
