use Rattle.std.proofs.Common.{◌≡◌, List, take}
use Rattle.stun_values.specs.declared.algorithm.PasswordAlgorithmValue.{PasswordAlgorithmValue}
use Rattle.stun_values.specs.Algorithms.{algorithm_names, algorithms_encoding}
use Rattle.stun_values.proofs.algorithm.put_names_in.Given as goal

-- the names so far are written
abbrev pub invariant-loop-i : goal.invariant-loop-i
invariant-loop-i g l =
    (algorithms : List PasswordAlgorithmValue)
    → algorithms_encoding algorithms ≡ l.value
    → g.S.TextSink.wrote l.fn.sink (algorithm_names (take l.i algorithms)) l.sink
