use Rattle.turn_client_machine.proofs.JoinedLemmas.{crosses_out, crosses_back}
use Rattle.turn_client_machine.proofs.laws.serving.data_crosses.Goals as goal

pub returns-clause-out : goal.returns-clause-out
returns-clause-out c = crosses_out

pub returns-clause-back : goal.returns-clause-back
returns-clause-back c = crosses_back
