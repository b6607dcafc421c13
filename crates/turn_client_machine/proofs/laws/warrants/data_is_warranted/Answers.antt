use Rattle.turn_client_machine.proofs.RightLemmas.{run_right}
use Rattle.turn_client_machine.proofs.laws.warrants.data_is_warranted.Goals as goal

pub returns : goal.returns
returns c = run_right
