use Rattle.std.proofs.Common.{refl}
use Rattle.usage_vectors.proofs.Computing.{computing}
use Rattle.usage_vectors.proofs.priorities_are_right.Goals as goal

pub returns-clause-check : goal.returns-clause-check
unfolding computing
returns-clause-check c = refl

pub returns-clause-host : goal.returns-clause-host
unfolding computing
returns-clause-host c = refl

pub returns-clause-reflexive : goal.returns-clause-reflexive
unfolding computing
returns-clause-reflexive c = refl

pub returns-clause-types : goal.returns-clause-types
unfolding computing
returns-clause-types c = refl

pub returns-clause-above : goal.returns-clause-above
unfolding computing
returns-clause-above c = refl

pub returns-clause-both : goal.returns-clause-both
unfolding computing
returns-clause-both c = refl
