use Rattle.stun_attributes.proofs.CompareLemmas.{Compared}
use Rattle.stun_attributes.proofs.integrity.compare.byte_differences.Given as goal

abbrev pub invariant-loop-i : goal.invariant-loop-i
invariant-loop-i l = Compared l.i l.difference l.left l.right
