use Rattle.std.specs.Io.KnownBytes.{Keeps}
use Rattle.stun.proofs.stream.read_piece.Given as goal

-- nothing was read
abbrev pub invariant-loop-turn : goal.invariant-loop-turn
invariant-loop-turn g l = Keeps (g.R.Read.remaining l.fn.reader) (g.R.Read.remaining l.reader)
