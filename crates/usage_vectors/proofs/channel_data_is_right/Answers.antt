use Rattle.std.proofs.Common.{refl}
use Rattle.usage_vectors.proofs.Computing.{computing}
use Rattle.usage_vectors.proofs.channel_data_is_right.Goals as goal

pub returns-clause-lawful : goal.returns-clause-lawful
unfolding computing
returns-clause-lawful c = refl

pub returns-clause-channel : goal.returns-clause-channel
unfolding computing
returns-clause-channel c = refl

pub returns-clause-length : goal.returns-clause-length
unfolding computing
returns-clause-length c = refl

pub returns-clause-padded : goal.returns-clause-padded
unfolding computing
returns-clause-padded c = refl

pub returns-clause-cut : goal.returns-clause-cut
unfolding computing
returns-clause-cut c = refl

pub returns-clause-longer : goal.returns-clause-longer
unfolding computing
returns-clause-longer c = refl

pub returns-clause-no_channel : goal.returns-clause-no_channel
unfolding computing
returns-clause-no_channel c = refl

pub returns-clause-old_channel : goal.returns-clause-old_channel
unfolding computing
returns-clause-old_channel c = refl
