use Rattle.std.proofs.Common.{refl}
use Rattle.standard_vectors.proofs.Computing.{validating}
use Rattle.standard_vectors.proofs.other_orders_are_cut_off.Goals as goal

pub returns-clause-integrity_fingerprint : goal.returns-clause-integrity_fingerprint
unfolding validating
returns-clause-integrity_fingerprint c = record {
  parses = refl;
  shows = refl;
  answers = refl;
}

pub returns-clause-sha256_integrity : goal.returns-clause-sha256_integrity
unfolding validating
returns-clause-sha256_integrity c = record {
  parses = refl;
  shows = refl;
  answers = refl;
}

pub returns-clause-sha256_fingerprint : goal.returns-clause-sha256_fingerprint
unfolding validating
returns-clause-sha256_fingerprint c = record {
  parses = refl;
  shows = refl;
  answers = refl;
}

pub returns-clause-fingerprint_integrity : goal.returns-clause-fingerprint_integrity
unfolding validating
returns-clause-fingerprint_integrity c = record {
  parses = refl;
  shows = refl;
  answers = refl;
}

pub returns-clause-fingerprint_sha256 : goal.returns-clause-fingerprint_sha256
unfolding validating
returns-clause-fingerprint_sha256 c = record {
  parses = refl;
  shows = refl;
  answers = refl;
}

pub returns-clause-ordinary : goal.returns-clause-ordinary
unfolding validating
returns-clause-ordinary c = record {
  parses = refl;
  shows = refl;
  answers = refl;
}
