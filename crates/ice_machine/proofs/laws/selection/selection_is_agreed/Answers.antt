use Rattle.ice_machine.proofs.RightLemmas.{run_selected}
use Rattle.ice_machine.proofs.SingleLemmas.{run_single}
use Rattle.ice_machine.proofs.laws.selection.selection_is_agreed.Goals as goal

pub returns-clause-agreed : goal.returns-clause-agreed
returns-clause-agreed c = run_selected

pub returns-clause-single : goal.returns-clause-single
returns-clause-single c = run_single
