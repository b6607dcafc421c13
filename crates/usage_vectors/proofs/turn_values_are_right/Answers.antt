use Rattle.std.proofs.Common.{refl}
use Rattle.usage_vectors.proofs.Computing.{computing}
use Rattle.usage_vectors.proofs.turn_values_are_right.Goals as goal

pub returns-clause-channel : goal.returns-clause-channel
unfolding computing
returns-clause-channel c = refl

pub returns-clause-no_channel : goal.returns-clause-no_channel
unfolding computing
returns-clause-no_channel c = refl

pub returns-clause-family : goal.returns-clause-family
unfolding computing
returns-clause-family c = refl

pub returns-clause-reserve : goal.returns-clause-reserve
unfolding computing
returns-clause-reserve c = refl

pub returns-clause-udp : goal.returns-clause-udp
unfolding computing
returns-clause-udp c = refl

pub returns-clause-icmp : goal.returns-clause-icmp
unfolding computing
returns-clause-icmp c = refl

pub returns-clause-old_channel : goal.returns-clause-old_channel
unfolding computing
returns-clause-old_channel c = refl

pub returns-clause-no_old_channel : goal.returns-clause-no_old_channel
unfolding computing
returns-clause-no_old_channel c = refl
