use Rattle.ice_machine.proofs.CountsLemmas.{poll_counts, check_counts}
use Rattle.ice_machine.proofs.PlacesLemmas.{run_distinct}
use Rattle.ice_machine.specs.Runs.{run}
use Rattle.ice_machine.proofs.laws.checking.exchanges_count.Goals as goal

pub returns-clause-request : goal.returns-clause-request
returns-clause-request c = λ setup begin events now fresh later anew r. poll_counts setup (run setup begin events) now fresh later anew r (run_distinct setup begin events)

pub returns-clause-check : goal.returns-clause-check
returns-clause-check c = check_counts
