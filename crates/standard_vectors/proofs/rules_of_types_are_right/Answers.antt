use Rattle.std.proofs.Common.{refl}
use Rattle.standard_vectors.proofs.Computing.{validating}
use Rattle.standard_vectors.proofs.rules_of_types_are_right.Goals as goal

pub returns-clause-rules : goal.returns-clause-rules
unfolding validating
returns-clause-rules c = refl

pub returns-clause-hmac : goal.returns-clause-hmac
unfolding validating
returns-clause-hmac c = refl

pub returns-clause-hash : goal.returns-clause-hash
unfolding validating
returns-clause-hash c = refl

pub returns-clause-checksum : goal.returns-clause-checksum
unfolding validating
returns-clause-checksum c = refl
