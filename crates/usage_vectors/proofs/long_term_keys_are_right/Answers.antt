use Rattle.std.proofs.Common.{refl}
use Rattle.usage_vectors.proofs.Computing.{authenticating}
use Rattle.usage_vectors.proofs.long_term_keys_are_right.Goals as goal

pub returns-clause-no_key : goal.returns-clause-no_key
unfolding authenticating
returns-clause-no_key c = refl

pub returns-clause-other_key : goal.returns-clause-other_key
unfolding authenticating
returns-clause-other_key c = refl

pub returns-clause-stale : goal.returns-clause-stale
unfolding authenticating
returns-clause-stale c = refl

pub returns-clause-unknown : goal.returns-clause-unknown
unfolding authenticating
returns-clause-unknown c = refl

pub returns-clause-accepted : goal.returns-clause-accepted
unfolding authenticating
returns-clause-accepted c = refl
