use Rattle.std.proofs.Common.{◌≡◌, drop}
use Rattle.std.specs.Prelude.{option_map}
use Rattle.std.specs.Duration.{as_nanos}
use Rattle.stun_transactions.specs.Slots.{sooner, soonest}
use Rattle.stun_transactions.proofs.slots.soonest.Given as goal

-- the sooner of the moment so far and the soonest of what is left
abbrev pub invariant-loop-slot : goal.invariant-loop-slot
invariant-loop-slot l = sooner (option_map as_nanos l.moment) (soonest (drop l.slot-index l.slots)) ≡ soonest l.slots
