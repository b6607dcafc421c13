use Rattle.std.proofs.Common.{ℕ, List, Option, length}
use Rattle.stun.specs.StreamSteps.{Serving}
use Rattle.stun.proofs.stream.take_all.Given as goal

-- what was passed is answered
abbrev pub invariant-loop-rest : goal.invariant-loop-rest
invariant-loop-rest g l =
    (left left' held : Option (List ℕ))
    → Serving l.fn.source left left' held (g.W.Write.contents l.fn.writer) l.fn.stream l.fn.piece
    → Serving l.fn.source left left' held (g.W.Write.contents l.writer) l.stream l.rest

abbrev pub decreases-loop-rest : goal.decreases-loop-rest
decreases-loop-rest g l = length l.rest
