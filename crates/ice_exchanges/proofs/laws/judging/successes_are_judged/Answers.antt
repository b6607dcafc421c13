use Rattle.ice_exchanges.proofs.ResponsesLemmas.{success_judged}
use Rattle.ice_exchanges.proofs.laws.judging.successes_are_judged.Goals as goal

pub returns : goal.returns
returns c = success_judged c.sockets_are_of_endpoints.ensures
