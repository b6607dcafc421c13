use Rattle.std.proofs.Common.{map, take, ◌++◌}
use Rattle.std.specs.List.{concat}
use Rattle.stun_keys.proofs.digest.hmac.digest_with.Given as goal

-- the hasher holds the block and the pieces so far
abbrev pub invariant-loop-piece : goal.invariant-loop-piece
invariant-loop-piece g l = g.H.HashFunction.holds l.hasher (l.block ++ concat (map (λ piece. piece.now) (take l.piece-index l.pieces)))
