use Rattle.ice_machine.proofs.RightLemmas.{run_right}
use Rattle.ice_machine.proofs.laws.sending.sending_is_warranted.Goals as goal

pub returns : goal.returns
returns c = run_right
