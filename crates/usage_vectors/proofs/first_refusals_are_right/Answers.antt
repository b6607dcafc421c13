use Rattle.std.proofs.Common.{refl}
use Rattle.usage_vectors.proofs.Computing.{computing}
use Rattle.usage_vectors.proofs.first_refusals_are_right.Goals as goal

pub returns-clause-unsigned_response : goal.returns-clause-unsigned_response
unfolding computing
returns-clause-unsigned_response c = λ key. refl

pub returns-clause-signed_response : goal.returns-clause-signed_response
unfolding computing
returns-clause-signed_response c = refl

pub returns-clause-too_often : goal.returns-clause-too_often
unfolding computing
returns-clause-too_often c = λ parts mechanism sha1 sha256 often. rw (mechanism, sha1, sha256, often) refl

pub returns-clause-unknown : goal.returns-clause-unknown
unfolding computing
returns-clause-unknown c = refl

pub returns-clause-understood : goal.returns-clause-understood
unfolding computing
returns-clause-understood c = refl
