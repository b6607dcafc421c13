use Rattle.ice_exchanges.proofs.ResponsesLemmas.{conflict_judged}
use Rattle.ice_exchanges.proofs.laws.judging.conflicts_are_judged.Goals as goal

pub returns : goal.returns
returns c = conflict_judged
