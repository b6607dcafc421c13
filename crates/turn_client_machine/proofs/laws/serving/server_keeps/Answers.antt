use Rattle.turn_client_machine.proofs.KeepingLemmas.{server_keeps_it}
use Rattle.turn_client_machine.proofs.laws.serving.server_keeps.Goals as goal

pub returns : goal.returns
returns c = server_keeps_it
