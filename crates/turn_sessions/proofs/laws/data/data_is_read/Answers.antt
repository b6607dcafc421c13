use Rattle.turn_sessions.proofs.DataLemmas.{given_heard, sent_read}
use Rattle.turn_sessions.proofs.laws.data.data_is_read.Goals as goal

pub returns-clause-sent : goal.returns-clause-sent
returns-clause-sent c = λ last_channel sets_df site transport id peer bytes.
    sent_read c.sockets_are_of_endpoints.ensures last_channel sets_df site id peer bytes

pub returns-clause-given : goal.returns-clause-given
returns-clause-given c = λ dealing request tuple. given_heard c.sockets_are_of_endpoints.ensures dealing request
