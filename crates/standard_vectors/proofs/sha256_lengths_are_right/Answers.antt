use Rattle.std.proofs.Common.{refl}
use Rattle.standard_vectors.proofs.Computing.{validating}
use Rattle.standard_vectors.proofs.sha256_lengths_are_right.Goals as goal

pub returns-clause-full : goal.returns-clause-full
unfolding validating
returns-clause-full c = record {
  parses = refl;
  shows = refl;
  answers = refl;
}

pub returns-clause-short : goal.returns-clause-short
unfolding validating
returns-clause-short c = record {
  parses = refl;
  shows = refl;
  answers = refl;
}

pub returns-clause-not_sha1 : goal.returns-clause-not_sha1
unfolding validating
returns-clause-not_sha1 c = refl
