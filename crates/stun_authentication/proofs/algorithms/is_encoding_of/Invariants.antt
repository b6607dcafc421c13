use Rattle.stun_authentication.proofs.EntriesLemmas.{rest_decides}
use Rattle.stun_authentication.proofs.algorithms.is_encoding_of.Given as goal

abbrev pub invariant-loop-i : goal.invariant-loop-i
invariant-loop-i l = rest_decides l.value l.algorithms l.i
