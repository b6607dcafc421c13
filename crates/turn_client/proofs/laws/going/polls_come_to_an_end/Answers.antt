use Rattle.turn_client_machine.proofs.WorkingLemmas.{polls_fewer}
use Rattle.turn_client.proofs.PollingLemmas.{few_polls}
use Rattle.turn_client.proofs.laws.going.polls_come_to_an_end.Goals as goal

pub returns : goal.returns
returns c = few_polls polls_fewer
