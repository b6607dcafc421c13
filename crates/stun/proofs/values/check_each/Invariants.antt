use Rattle.std.proofs.Common.{◌≡◌, ◌-◌, ◌*◌, ◌/◌, length, drop}
use Rattle.stun.specs.Values.{parameters_within}
use Rattle.stun.proofs.values.check_each.Given as goal

-- what the entries so far say is none
abbrev pub invariant-loop-i : goal.invariant-loop-i
invariant-loop-i l = parameters_within (length l.value / 4) l.value ≡ parameters_within (length l.value / 4 - l.i) (drop (4 * l.i) l.value)
