use Rattle.stun_transactions.proofs.RowsLemmas.{rest_ends}
use Rattle.stun_transactions.proofs.RunsLemmas.{nothing_more, receives_on}
use Rattle.stun_transactions.proofs.laws.stopping_sends_nothing.Goals as goal

pub returns-clause-sends : goal.returns-clause-sends
returns-clause-sends c = nothing_more

pub returns-clause-received : goal.returns-clause-received
returns-clause-received c = receives_on

pub returns-clause-end : goal.returns-clause-end
returns-clause-end c = rest_ends
