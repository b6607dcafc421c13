use Rattle.turn_sessions.proofs.ChannelsLemmas.{channel_heard, channel_read}
use Rattle.turn_sessions.proofs.laws.data.channel_data_is_read.Goals as goal

pub returns-clause-sent_on : goal.returns-clause-sent_on
returns-clause-sent_on c = channel_read

pub returns-clause-given_on : goal.returns-clause-given_on
returns-clause-given_on c = λ dealing request tuple id channel peer bytes. channel_heard dealing request tuple channel bytes
