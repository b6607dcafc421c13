use Rattle.std.proofs.Common.{◌≡◌, ◌*◌, ◌++◌, take, drop}
use Rattle.stun_values.specs.Algorithms.{algorithms_encoding}
use Rattle.stun_values.proofs.algorithm.write_algorithms.Given as goal

abbrev pub invariant-loop-i : goal.invariant-loop-i
invariant-loop-i l = l.dest ≡ algorithms_encoding (take l.i l.algorithms) ++ drop (4 * l.i) l.initial.dest
