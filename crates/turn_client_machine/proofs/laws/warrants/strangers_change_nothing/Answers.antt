use Rattle.turn_client_machine.proofs.StrangersLemmas.{unchanged, unknown, forgotten}
use Rattle.turn_client_machine.proofs.laws.warrants.strangers_change_nothing.Goals as goal

pub returns-clause-unchanged : goal.returns-clause-unchanged
returns-clause-unchanged c = unchanged

pub returns-clause-unknown : goal.returns-clause-unknown
returns-clause-unknown c = unknown

pub returns-clause-forgotten : goal.returns-clause-forgotten
returns-clause-forgotten c = forgotten
