use Rattle.std.proofs.Common.{true, [], ◌∷◌, refl}
use Rattle.stun_grammar.specs.AttributeTypes.{USERNAME, SOFTWARE}
use Rattle.standard_vectors.proofs.Computing.{validating}
use Rattle.standard_vectors.proofs.what_follows_is_ignored.Goals as goal

pub returns-clause-integrity : goal.returns-clause-integrity
unfolding validating
returns-clause-integrity c = record {
  parses = refl;
  shows = refl;
  validates = refl;
}

pub returns-clause-sha256 : goal.returns-clause-sha256
unfolding validating
returns-clause-sha256 c = record {
  parses = refl;
  shows = refl;
  answers = refl;
}

pub returns-clause-fingerprint : goal.returns-clause-fingerprint
unfolding validating
returns-clause-fingerprint c = record {
  parses = refl;
  shows = refl;
  validates = refl;
}

pub returns-clause-in_order : goal.returns-clause-in_order
unfolding validating
returns-clause-in_order c = record {
  ordinary = USERNAME ∷ SOFTWARE ∷ [];
  integrity = true;
  sha256 = true;
  fingerprint = true;
  none_ends = (refl, (refl, tt));
  whole = refl;
}
