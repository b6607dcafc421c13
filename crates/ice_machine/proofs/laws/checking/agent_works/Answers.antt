use Rattle.ice_machine.proofs.FinalLemmas.{data_goes, response_counts}
use Rattle.ice_machine.proofs.BusyLemmas.{keeps_busy}
use Rattle.ice_machine.proofs.laws.checking.agent_works.Goals as goal

pub returns-clause-data : goal.returns-clause-data
returns-clause-data c = data_goes

pub returns-clause-busy : goal.returns-clause-busy
returns-clause-busy c = keeps_busy

pub returns-clause-response : goal.returns-clause-response
returns-clause-response c = response_counts
