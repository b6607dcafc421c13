use Rattle.stun_exchanges.proofs.LongTermLemmas.{accepted}
use Rattle.stun_exchanges.proofs.RetriedLemmas.{retried}
use Rattle.stun_exchanges.proofs.TakenLemmas.{long_heard}
use Rattle.stun_exchanges.proofs.logins.login_is_accepted.Goals as goal

pub returns-clause-accepted : goal.returns-clause-accepted
returns-clause-accepted c = accepted c.shown_is_found.ensures.first c.shown_is_found.ensures.missing

pub returns-clause-heard : goal.returns-clause-heard
returns-clause-heard c = long_heard c.shown_is_found.ensures.first c.shown_is_found.ensures.missing

pub returns-clause-retried : goal.returns-clause-retried
returns-clause-retried c = retried c.shown_is_found.ensures.first c.shown_is_found.ensures.missing
