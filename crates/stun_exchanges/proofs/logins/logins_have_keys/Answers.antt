use Rattle.stun_exchanges.proofs.RetriedLemmas.{long_keys, short_keys}
use Rattle.stun_exchanges.proofs.logins.logins_have_keys.Goals as goal

pub returns-clause-long_term : goal.returns-clause-long_term
returns-clause-long_term c = long_keys

pub returns-clause-short_term : goal.returns-clause-short_term
returns-clause-short_term c = short_keys
