use Rattle.std.proofs.Common.{refl}
use Rattle.usage_vectors.proofs.Computing.{computing}
use Rattle.usage_vectors.proofs.nonces_are_right.Goals as goal

pub returns-clause-base64 : goal.returns-clause-base64
unfolding computing
returns-clause-base64 c = refl

pub returns-clause-made : goal.returns-clause-made
unfolding computing
returns-clause-made c = refl
