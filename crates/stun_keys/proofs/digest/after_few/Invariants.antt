use Rattle.std.proofs.Common.{◌≡◌, fold, length}
use Rattle.stun_grammar.specs.Checksums.{after_byte}
use Rattle.stun_keys.proofs.digest.after_few.Given as goal

-- the rest takes the register to where all the bytes take it
abbrev pub invariant-loop-rest : goal.invariant-loop-rest
invariant-loop-rest l = fold after_byte l.register l.rest ≡ fold after_byte l.fn.register l.bytes

abbrev pub decreases-loop-rest : goal.decreases-loop-rest
decreases-loop-rest l = length l.rest
