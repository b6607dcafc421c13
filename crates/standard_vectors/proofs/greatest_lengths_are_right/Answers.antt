use Rattle.std.proofs.Common.{refl}
use Rattle.standard_vectors.proofs.Computing.{validating}
use Rattle.standard_vectors.proofs.greatest_lengths_are_right.Goals as goal

pub returns-clause-greatest : goal.returns-clause-greatest
unfolding validating
returns-clause-greatest c = refl

pub returns-clause-beyond : goal.returns-clause-beyond
unfolding validating
returns-clause-beyond c = refl

pub returns-clause-empty_value : goal.returns-clause-empty_value
unfolding validating
returns-clause-empty_value c = refl

pub returns-clause-no_room_left : goal.returns-clause-no_room_left
unfolding validating
returns-clause-no_room_left c = refl

pub returns-clause-room : goal.returns-clause-room
unfolding validating
returns-clause-room c = refl

pub returns-clause-no_room : goal.returns-clause-no_room
unfolding validating
returns-clause-no_room c = refl

pub returns-clause-padded : goal.returns-clause-padded
unfolding validating
returns-clause-padded c = refl

pub returns-clause-both : goal.returns-clause-both
unfolding validating
returns-clause-both c = refl

pub returns-clause-no_header : goal.returns-clause-no_header
unfolding validating
returns-clause-no_header c = refl

pub returns-clause-order_first : goal.returns-clause-order_first
unfolding validating
returns-clause-order_first c = refl
