use Rattle.std.proofs.Common.{[]}
use Rattle.stun.specs.StreamSteps.{Serving}
use Rattle.stun.proofs.stream.serve.Given as goal

-- what was read is answered
abbrev pub invariant-loop-turn : goal.invariant-loop-turn
invariant-loop-turn g l = Serving l.fn.source (g.R.Read.remaining l.fn.reader) (g.R.Read.remaining l.reader) (g.W.Write.contents l.fn.writer) (g.W.Write.contents l.writer) l.stream []
