use Rattle.ice_machine.proofs.StrangersLemmas.{unchanged, forgotten}
use Rattle.ice_machine.proofs.laws.sending.strangers_change_nothing.Goals as goal

pub returns-clause-unchanged : goal.returns-clause-unchanged
returns-clause-unchanged c = unchanged

pub returns-clause-forgotten : goal.returns-clause-forgotten
returns-clause-forgotten c = forgotten
