use Rattle.stun_transactions.proofs.PreparingLemmas.{receives_the_same}
use Rattle.stun_transactions.proofs.laws.preparing_changes_nothing.Goals as goal

pub returns : goal.returns
returns c = receives_the_same
