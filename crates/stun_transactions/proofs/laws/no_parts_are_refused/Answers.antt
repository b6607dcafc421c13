use Rattle.stun_transactions.proofs.PartsLemmas.{begins, polled, received, ended, stopped}
use Rattle.stun_transactions.proofs.laws.no_parts_are_refused.Goals as goal

pub returns-clause-begins : goal.returns-clause-begins
returns-clause-begins c = begins

pub returns-clause-polls : goal.returns-clause-polls
returns-clause-polls c = polled

pub returns-clause-receives : goal.returns-clause-receives
returns-clause-receives c = received

pub returns-clause-ends : goal.returns-clause-ends
returns-clause-ends c = ended

pub returns-clause-stops : goal.returns-clause-stops
returns-clause-stops c = stopped
