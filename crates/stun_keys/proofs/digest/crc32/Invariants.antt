use Rattle.std.proofs.Common.{◌≡◌, map, take}
use Rattle.std.specs.List.{concat, fold}
use Rattle.stun_grammar.specs.Checksums.{after_byte}
use Rattle.stun_keys.proofs.digest.crc32.Given as goal

-- the register is that of the pieces so far
abbrev pub invariant-loop-piece : goal.invariant-loop-piece
invariant-loop-piece l = l.register ≡ fold after_byte 0xFFFFFFFF (concat (map (λ piece. piece.now) (take l.piece-index l.pieces)))
