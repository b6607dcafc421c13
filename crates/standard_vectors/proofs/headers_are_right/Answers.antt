use Rattle.std.proofs.Common.{refl}
use Rattle.standard_vectors.proofs.Computing.{validating}
use Rattle.standard_vectors.proofs.headers_are_right.Goals as goal

pub returns-clause-channel : goal.returns-clause-channel
unfolding validating
returns-clause-channel c = refl

pub returns-clause-no_cookie : goal.returns-clause-no_cookie
unfolding validating
returns-clause-no_cookie c = refl

pub returns-clause-begun : goal.returns-clause-begun
unfolding validating
returns-clause-begun c = refl

pub returns-clause-begun_otherwise : goal.returns-clause-begun_otherwise
unfolding validating
returns-clause-begun_otherwise c = refl
