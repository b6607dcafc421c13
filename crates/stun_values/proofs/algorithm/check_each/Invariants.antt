use Rattle.std.proofs.Common.{◌≡◌, ◌-◌, ◌*◌, ◌/◌, length, drop}
use Rattle.stun_values.specs.Algorithms.{fault_within}
use Rattle.stun_values.proofs.algorithm.check_each.Given as goal

abbrev pub invariant-loop-i : goal.invariant-loop-i
invariant-loop-i l = fault_within (length l.value / 4) l.value ≡ fault_within (length l.value / 4 - l.i) (drop (4 * l.i) l.value)
