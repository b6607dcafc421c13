use Rattle.std.proofs.Common.{◌*◌}
use Rattle.stun_attributes.proofs.CompareLemmas.{Compared}
use Rattle.stun_attributes.proofs.integrity.compare.word_differences.Given as goal

abbrev pub invariant-loop-word : goal.invariant-loop-word
invariant-loop-word l = Compared (4 * l.word) l.difference l.left l.right
