use Rattle.std.proofs.Common.{List, ℕ, map, take, ◌++◌}
use Rattle.std.specs.List.{concat}
use Rattle.stun_keys.proofs.digest.hmac.digest_after.Given as goal

-- whatever the hasher held, it holds that and the pieces so far
abbrev pub invariant-loop-piece : goal.invariant-loop-piece
invariant-loop-piece g l = (before : List ℕ) → g.H.HashFunction.holds l.keyed before → g.H.HashFunction.holds l.hasher (before ++ concat (map (λ piece. piece.now) (take l.piece-index l.pieces)))
