use Rattle.std.proofs.Common.{refl}
use Rattle.usage_vectors.proofs.Computing.{computing}
use Rattle.usage_vectors.proofs.attribute_types_are_right.Goals as goal

pub returns-clause-ice : goal.returns-clause-ice
unfolding computing
returns-clause-ice c = refl

pub returns-clause-turn : goal.returns-clause-turn
unfolding computing
returns-clause-turn c = refl
