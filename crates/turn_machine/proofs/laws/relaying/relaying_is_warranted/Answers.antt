use Rattle.turn_machine.proofs.RightLemmas.{run_right}
use Rattle.turn_machine.proofs.laws.relaying.relaying_is_warranted.Goals as goal

pub returns : goal.returns
returns c = run_right
