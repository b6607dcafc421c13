use Rattle.std.proofs.Common.{take}
use Rattle.stun_values.specs.Algorithms.{algorithm_names}
use Rattle.stun_values.proofs.algorithm.put_names.Given as goal

-- the names so far are written
abbrev pub invariant-loop-i : goal.invariant-loop-i
invariant-loop-i g l = g.S.TextSink.wrote l.fn.sink (algorithm_names (take l.i l.algorithms)) l.sink
