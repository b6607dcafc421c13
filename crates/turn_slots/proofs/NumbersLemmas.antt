-- The numbers of relayed addresses.
use Rattle.std.proofs.Common.{arith}
use Rattle.turn_slots.specs.Numbers.{NumbersGrow}

pub numbers_grow : NumbersGrow
numbers_grow earlier later slot other low before = omega (arith, low, before)
