use Rattle.std.proofs.Common.{refl}
use Rattle.usage_vectors.proofs.Computing.{authenticating}
use Rattle.usage_vectors.proofs.long_term_rows_are_right.Goals as goal

pub returns-clause-fingerprint : goal.returns-clause-fingerprint
unfolding authenticating
returns-clause-fingerprint c = refl

pub returns-clause-class : goal.returns-clause-class
unfolding authenticating
returns-clause-class c = refl

pub returns-clause-integrity : goal.returns-clause-integrity
unfolding authenticating
returns-clause-integrity c = refl

pub returns-clause-realm : goal.returns-clause-realm
unfolding authenticating
returns-clause-realm c = refl

pub returns-clause-two_names : goal.returns-clause-two_names
unfolding authenticating
returns-clause-two_names c = refl

pub returns-clause-one_alone : goal.returns-clause-one_alone
unfolding authenticating
returns-clause-one_alone c = refl

pub returns-clause-list_alone : goal.returns-clause-list_alone
unfolding authenticating
returns-clause-list_alone c = refl

pub returns-clause-other_list : goal.returns-clause-other_list
unfolding authenticating
returns-clause-other_list c = refl

pub returns-clause-none_listed : goal.returns-clause-none_listed
unfolding authenticating
returns-clause-none_listed c = refl

pub returns-clause-unpromised : goal.returns-clause-unpromised
unfolding authenticating
returns-clause-unpromised c = refl

pub returns-clause-unknown_list : goal.returns-clause-unknown_list
unfolding authenticating
returns-clause-unknown_list c = refl
