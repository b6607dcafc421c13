use Rattle.std.proofs.Common.{refl}
use Rattle.standard_vectors.proofs.Computing.{validating}
use Rattle.standard_vectors.proofs.names_of_types_are_right.Goals as goal

pub returns : goal.returns
unfolding validating
returns c = refl
