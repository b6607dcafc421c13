use Rattle.std.proofs.Common.{refl}
use Rattle.standard_vectors.proofs.Computing.{validating}
use Rattle.standard_vectors.proofs.hmacs_of_long_keys_are_right.Goals as goal

pub returns-clause-sha1_of_80 : goal.returns-clause-sha1_of_80
unfolding validating
returns-clause-sha1_of_80 c = refl

pub returns-clause-sha256_of_131 : goal.returns-clause-sha256_of_131
unfolding validating
returns-clause-sha256_of_131 c = refl

pub returns-clause-sha1_of_block : goal.returns-clause-sha1_of_block
unfolding validating
returns-clause-sha1_of_block c = refl

pub returns-clause-sha1_of_more : goal.returns-clause-sha1_of_more
unfolding validating
returns-clause-sha1_of_more c = refl

pub returns-clause-sha256_of_block : goal.returns-clause-sha256_of_block
unfolding validating
returns-clause-sha256_of_block c = refl

pub returns-clause-sha256_of_more : goal.returns-clause-sha256_of_more
unfolding validating
returns-clause-sha256_of_more c = refl
