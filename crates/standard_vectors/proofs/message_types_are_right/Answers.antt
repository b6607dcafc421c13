use Rattle.std.proofs.Common.{refl}
use Rattle.standard_vectors.proofs.Computing.{validating}
use Rattle.standard_vectors.proofs.message_types_are_right.Goals as goal

pub returns-clause-binding_request : goal.returns-clause-binding_request
unfolding validating
returns-clause-binding_request c = refl

pub returns-clause-binding_indication : goal.returns-clause-binding_indication
unfolding validating
returns-clause-binding_indication c = refl

pub returns-clause-binding_success : goal.returns-clause-binding_success
unfolding validating
returns-clause-binding_success c = refl

pub returns-clause-binding_error : goal.returns-clause-binding_error
unfolding validating
returns-clause-binding_error c = refl

pub returns-clause-high_bits : goal.returns-clause-high_bits
unfolding validating
returns-clause-high_bits c = refl

pub returns-clause-class_read : goal.returns-clause-class_read
unfolding validating
returns-clause-class_read c = refl

pub returns-clause-method_read : goal.returns-clause-method_read
unfolding validating
returns-clause-method_read c = refl
