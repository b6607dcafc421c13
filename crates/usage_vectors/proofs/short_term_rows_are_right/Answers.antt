use Rattle.std.proofs.Common.{refl}
use Rattle.usage_vectors.proofs.Computing.{authenticating}
use Rattle.usage_vectors.proofs.short_term_rows_are_right.Goals as goal

pub returns-clause-fingerprint : goal.returns-clause-fingerprint
unfolding authenticating
returns-clause-fingerprint c = refl

pub returns-clause-class : goal.returns-clause-class
unfolding authenticating
returns-clause-class c = refl

pub returns-clause-integrity : goal.returns-clause-integrity
unfolding authenticating
returns-clause-integrity c = refl

pub returns-clause-username : goal.returns-clause-username
unfolding authenticating
returns-clause-username c = refl

pub returns-clause-no_key : goal.returns-clause-no_key
unfolding authenticating
returns-clause-no_key c = refl

pub returns-clause-one_algorithm : goal.returns-clause-one_algorithm
unfolding authenticating
returns-clause-one_algorithm c = refl

pub returns-clause-other_key : goal.returns-clause-other_key
unfolding authenticating
returns-clause-other_key c = refl

pub returns-clause-accepted : goal.returns-clause-accepted
unfolding authenticating
returns-clause-accepted c = refl
