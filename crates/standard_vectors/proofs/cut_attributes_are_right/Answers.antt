use Rattle.std.proofs.Common.{refl}
use Rattle.standard_vectors.proofs.Computing.{validating}
use Rattle.standard_vectors.proofs.cut_attributes_are_right.Goals as goal

pub returns-clause-between : goal.returns-clause-between
unfolding validating
returns-clause-between c = refl

pub returns-clause-header : goal.returns-clause-header
unfolding validating
returns-clause-header c = refl

pub returns-clause-value : goal.returns-clause-value
unfolding validating
returns-clause-value c = refl

pub returns-clause-padding : goal.returns-clause-padding
unfolding validating
returns-clause-padding c = refl

pub returns-clause-last : goal.returns-clause-last
unfolding validating
returns-clause-last c = refl
