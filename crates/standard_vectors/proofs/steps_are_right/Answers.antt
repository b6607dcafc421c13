use Rattle.std.proofs.Common.{refl}
use Rattle.standard_vectors.proofs.Computing.{validating}
use Rattle.standard_vectors.proofs.steps_are_right.Goals as goal

pub returns-clause-long_term : goal.returns-clause-long_term
unfolding validating
returns-clause-long_term c = refl

pub returns-clause-both : goal.returns-clause-both
unfolding validating
returns-clause-both c = refl
