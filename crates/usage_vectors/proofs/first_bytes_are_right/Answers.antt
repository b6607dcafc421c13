use Rattle.std.proofs.Common.{refl}
use Rattle.usage_vectors.proofs.Computing.{computing}
use Rattle.usage_vectors.proofs.first_bytes_are_right.Goals as goal

pub returns-clause-stun : goal.returns-clause-stun
unfolding computing
returns-clause-stun c = refl

pub returns-clause-none : goal.returns-clause-none
unfolding computing
returns-clause-none c = refl

pub returns-clause-zrtp : goal.returns-clause-zrtp
unfolding computing
returns-clause-zrtp c = refl

pub returns-clause-dtls : goal.returns-clause-dtls
unfolding computing
returns-clause-dtls c = refl

pub returns-clause-channel : goal.returns-clause-channel
unfolding computing
returns-clause-channel c = refl

pub returns-clause-channels : goal.returns-clause-channels
unfolding computing
returns-clause-channels c = refl

pub returns-clause-rtp : goal.returns-clause-rtp
unfolding computing
returns-clause-rtp c = refl

pub returns-clause-old_channels : goal.returns-clause-old_channels
unfolding computing
returns-clause-old_channels c = refl
