use Rattle.turn_machine.proofs.KeptLemmas.{run_short}
use Rattle.turn_machine.proofs.KeptLemmas.{run_within}
use Rattle.turn_machine.proofs.laws.places.table_is_bounded.Goals as goal

pub returns-clause-relays : goal.returns-clause-relays
returns-clause-relays c = run_short

pub returns-clause-each : goal.returns-clause-each
returns-clause-each c = run_within
