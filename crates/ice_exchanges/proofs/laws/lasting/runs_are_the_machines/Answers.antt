use Rattle.ice_exchanges.proofs.RunsLemmas.{disturbed_same}
use Rattle.ice_exchanges.proofs.laws.lasting.runs_are_the_machines.Goals as goal

pub returns : goal.returns
returns c = disturbed_same
