use Rattle.std.proofs.Common.{refl}
use Rattle.usage_vectors.proofs.Computing.{computing}
use Rattle.usage_vectors.proofs.nonce_cookies_are_right.Goals as goal

pub returns-clause-algorithms : goal.returns-clause-algorithms
unfolding computing
returns-clause-algorithms c = refl

pub returns-clause-unassigned : goal.returns-clause-unassigned
unfolding computing
returns-clause-unassigned c = refl

pub returns-clause-both : goal.returns-clause-both
unfolding computing
returns-clause-both c = refl

pub returns-clause-absent : goal.returns-clause-absent
unfolding computing
returns-clause-absent c = refl

pub returns-clause-written : goal.returns-clause-written
unfolding computing
returns-clause-written c = refl

pub returns-clause-anonymous : goal.returns-clause-anonymous
unfolding computing
returns-clause-anonymous c = refl
