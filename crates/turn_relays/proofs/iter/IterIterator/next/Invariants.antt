use Rattle.std.proofs.Common.{◌≡◌, ◌-◌, length}
use Rattle.turn_relays.specs.Iterating.{relayed_left}
use Rattle.turn_relays.proofs.iter.IterIterator.next.Given as goal

-- the slots so far are free
abbrev pub invariant-walk : goal.invariant-walk
invariant-walk g l = relayed_left l.self ≡ relayed_left l.initial.self

abbrev pub decreases-walk : goal.decreases-walk
decreases-walk g l = length l.self.relays.now.slots - l.self.slot
