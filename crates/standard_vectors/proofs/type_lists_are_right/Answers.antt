use Rattle.std.proofs.Common.{refl}
use Rattle.standard_vectors.proofs.Computing.{validating}
use Rattle.standard_vectors.proofs.type_lists_are_right.Goals as goal

pub returns-clause-lawful : goal.returns-clause-lawful
unfolding validating
returns-clause-lawful c = refl

pub returns-clause-read : goal.returns-clause-read
unfolding validating
returns-clause-read c = refl

pub returns-clause-written : goal.returns-clause-written
unfolding validating
returns-clause-written c = refl

pub returns-clause-odd : goal.returns-clause-odd
unfolding validating
returns-clause-odd c = refl
