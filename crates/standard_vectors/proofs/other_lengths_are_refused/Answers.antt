use Rattle.std.proofs.Common.{refl}
use Rattle.standard_vectors.proofs.Computing.{validating}
use Rattle.standard_vectors.proofs.other_lengths_are_refused.Goals as goal

pub returns-clause-sha1_cut : goal.returns-clause-sha1_cut
unfolding validating
returns-clause-sha1_cut c = record {
  parses = refl;
  shows = refl;
  answers = refl;
}

pub returns-clause-sha256_cut : goal.returns-clause-sha256_cut
unfolding validating
returns-clause-sha256_cut c = record {
  parses = refl;
  shows = refl;
  answers = refl;
}

pub returns-clause-sha256_odd : goal.returns-clause-sha256_odd
unfolding validating
returns-clause-sha256_odd c = record {
  parses = refl;
  shows = refl;
  answers = refl;
}

pub returns-clause-sha256_long : goal.returns-clause-sha256_long
unfolding validating
returns-clause-sha256_long c = record {
  parses = refl;
  shows = refl;
  answers = refl;
}
