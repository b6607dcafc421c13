use Rattle.std.proofs.Common.{refl}
use Rattle.standard_vectors.proofs.Computing.{validating}
use Rattle.standard_vectors.proofs.authenticated_content_is_right.Goals as goal

pub returns-clause-content : goal.returns-clause-content
unfolding validating
returns-clause-content c = refl

pub returns-clause-fingerprint : goal.returns-clause-fingerprint
unfolding validating
returns-clause-fingerprint c = refl
