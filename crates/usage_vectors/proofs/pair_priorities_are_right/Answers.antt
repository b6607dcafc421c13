use Rattle.std.proofs.Common.{refl}
use Rattle.usage_vectors.proofs.Computing.{computing}
use Rattle.usage_vectors.proofs.pair_priorities_are_right.Goals as goal

pub returns-clause-controlling_higher : goal.returns-clause-controlling_higher
unfolding computing
returns-clause-controlling_higher c = refl

pub returns-clause-controlled_higher : goal.returns-clause-controlled_higher
unfolding computing
returns-clause-controlled_higher c = refl

pub returns-clause-equal : goal.returns-clause-equal
unfolding computing
returns-clause-equal c = refl

pub returns-clause-check : goal.returns-clause-check
unfolding computing
returns-clause-check c = refl

pub returns-clause-greatest_and_least : goal.returns-clause-greatest_and_least
unfolding computing
returns-clause-greatest_and_least c = refl

pub returns-clause-least_and_greatest : goal.returns-clause-least_and_greatest
unfolding computing
returns-clause-least_and_greatest c = refl

pub returns-clause-not_0 : goal.returns-clause-not_0
unfolding computing
returns-clause-not_0 c = refl

pub returns-clause-below_2_31 : goal.returns-clause-below_2_31
unfolding computing
returns-clause-below_2_31 c = refl
