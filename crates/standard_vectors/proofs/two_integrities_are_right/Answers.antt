use Rattle.std.proofs.Common.{refl}
use Rattle.standard_vectors.proofs.Computing.{validating}
use Rattle.standard_vectors.proofs.two_integrities_are_right.Goals as goal

pub returns-clause-both : goal.returns-clause-both
unfolding validating
returns-clause-both c = record {
  parses = refl;
  shows = refl;
  answers = refl;
}

pub returns-clause-by_sha1 : goal.returns-clause-by_sha1
unfolding validating
returns-clause-by_sha1 c = refl

pub returns-clause-by_sha256 : goal.returns-clause-by_sha256
unfolding validating
returns-clause-by_sha256 c = refl
