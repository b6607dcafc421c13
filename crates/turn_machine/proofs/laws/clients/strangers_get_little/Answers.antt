use Rattle.turn_machine.proofs.StrangersLemmas.{forgotten}
use Rattle.turn_machine.proofs.StrangersLemmas.{quiet}
use Rattle.turn_machine.proofs.StrangersLemmas.{unchanged}
use Rattle.turn_machine.proofs.laws.clients.strangers_get_little.Goals as goal

pub returns-clause-unchanged : goal.returns-clause-unchanged
returns-clause-unchanged c = unchanged

pub returns-clause-quiet : goal.returns-clause-quiet
returns-clause-quiet c = quiet

pub returns-clause-forgotten : goal.returns-clause-forgotten
returns-clause-forgotten c = forgotten
