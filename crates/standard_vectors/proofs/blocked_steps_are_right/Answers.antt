use Rattle.std.proofs.Common.{refl}
use Rattle.standard_vectors.proofs.Computing.{validating}
use Rattle.standard_vectors.proofs.blocked_steps_are_right.Goals as goal

pub returns-clause-none : goal.returns-clause-none
unfolding validating
returns-clause-none c = refl

pub returns-clause-integrity : goal.returns-clause-integrity
unfolding validating
returns-clause-integrity c = refl

pub returns-clause-sha256 : goal.returns-clause-sha256
unfolding validating
returns-clause-sha256 c = refl

pub returns-clause-fingerprint : goal.returns-clause-fingerprint
unfolding validating
returns-clause-fingerprint c = refl

pub returns-clause-both : goal.returns-clause-both
unfolding validating
returns-clause-both c = refl
