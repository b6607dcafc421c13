use Rattle.std.proofs.Common.{◌≡◌, ◌*◌, length, take}
use Rattle.stun_values.specs.Algorithms.{algorithms_encoding}
use Rattle.stun_attributes.proofs.password_algorithms.PasswordAlgorithms.list_of.Given as goal

abbrev pub invariant-loop-i : goal.invariant-loop-i
invariant-loop-i l = (algorithms_encoding l.list.items ≡ take (4 * l.i) l.value) × (length l.list.items ≡ l.i)
