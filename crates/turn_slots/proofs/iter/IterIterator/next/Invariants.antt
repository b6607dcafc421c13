use Rattle.std.proofs.Common.{◌≡◌, ◌-◌, length}
use Rattle.turn_slots.specs.Iterating.{taken_left}
use Rattle.turn_slots.proofs.iter.IterIterator.next.Given as goal

-- the slots so far are free
abbrev pub invariant-walk : goal.invariant-walk
invariant-walk l = taken_left l.self ≡ taken_left l.initial.self

abbrev pub decreases-walk : goal.decreases-walk
decreases-walk l = length l.self.entries.now - l.self.slot
