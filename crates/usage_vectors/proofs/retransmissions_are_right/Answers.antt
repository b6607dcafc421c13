use Rattle.std.proofs.Common.{refl}
use Rattle.usage_vectors.proofs.Computing.{computing}
use Rattle.usage_vectors.proofs.retransmissions_are_right.Goals as goal

pub returns-clause-moments : goal.returns-clause-moments
unfolding computing
returns-clause-moments c = refl

pub returns-clause-end : goal.returns-clause-end
unfolding computing
returns-clause-end c = refl

pub returns-clause-first_wait : goal.returns-clause-first_wait
unfolding computing
returns-clause-first_wait c = refl

pub returns-clause-sixth_wait : goal.returns-clause-sixth_wait
unfolding computing
returns-clause-sixth_wait c = refl

pub returns-clause-last_wait : goal.returns-clause-last_wait
unfolding computing
returns-clause-last_wait c = refl
