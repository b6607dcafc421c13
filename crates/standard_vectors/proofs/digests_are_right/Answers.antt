use Rattle.std.proofs.Common.{refl}
use Rattle.standard_vectors.proofs.Computing.{validating}
use Rattle.standard_vectors.proofs.digests_are_right.Goals as goal

pub returns-clause-sha1_short : goal.returns-clause-sha1_short
unfolding validating
returns-clause-sha1_short c = refl

pub returns-clause-sha1_long : goal.returns-clause-sha1_long
unfolding validating
returns-clause-sha1_long c = refl

pub returns-clause-sha256_short : goal.returns-clause-sha256_short
unfolding validating
returns-clause-sha256_short c = refl

pub returns-clause-sha256_long : goal.returns-clause-sha256_long
unfolding validating
returns-clause-sha256_long c = refl

pub returns-clause-md5_short : goal.returns-clause-md5_short
unfolding validating
returns-clause-md5_short c = refl

pub returns-clause-md5_long : goal.returns-clause-md5_long
unfolding validating
returns-clause-md5_long c = refl
