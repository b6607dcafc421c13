use Rattle.std.proofs.Common.{refl}
use Rattle.standard_vectors.proofs.Computing.{validating}
use Rattle.standard_vectors.proofs.error_codes_are_right.Goals as goal

pub returns-clause-lawful : goal.returns-clause-lawful
unfolding validating
returns-clause-lawful c = refl

pub returns-clause-code : goal.returns-clause-code
unfolding validating
returns-clause-code c = refl

pub returns-clause-written : goal.returns-clause-written
unfolding validating
returns-clause-written c = refl

pub returns-clause-no_class : goal.returns-clause-no_class
unfolding validating
returns-clause-no_class c = refl

pub returns-clause-no_number : goal.returns-clause-no_number
unfolding validating
returns-clause-no_number c = refl
