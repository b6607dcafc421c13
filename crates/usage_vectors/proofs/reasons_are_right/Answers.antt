use Rattle.std.proofs.Common.{refl}
use Rattle.usage_vectors.proofs.Computing.{computing}
use Rattle.usage_vectors.proofs.reasons_are_right.Goals as goal

pub returns : goal.returns
unfolding computing
returns c = refl
