use Rattle.ice_exchanges.proofs.ChecksLemmas.{judged}
use Rattle.ice_exchanges.proofs.laws.judging.checks_are_judged.Goals as goal

pub returns : goal.returns
returns c = judged
