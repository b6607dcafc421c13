use Rattle.std.proofs.Common.{refl}
use Rattle.standard_vectors.proofs.Computing.{validating}
use Rattle.standard_vectors.proofs.hmacs_of_short_keys_are_right.Goals as goal

pub returns-clause-sha1_of_20 : goal.returns-clause-sha1_of_20
unfolding validating
returns-clause-sha1_of_20 c = refl

pub returns-clause-sha1_of_4 : goal.returns-clause-sha1_of_4
unfolding validating
returns-clause-sha1_of_4 c = refl

pub returns-clause-sha256_of_20 : goal.returns-clause-sha256_of_20
unfolding validating
returns-clause-sha256_of_20 c = refl

pub returns-clause-sha256_of_4 : goal.returns-clause-sha256_of_4
unfolding validating
returns-clause-sha256_of_4 c = refl
