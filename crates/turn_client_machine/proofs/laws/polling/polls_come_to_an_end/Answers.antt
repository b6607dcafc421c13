use Rattle.turn_client_machine.proofs.WorkingLemmas.{polls_fewer, polled_in_time}
use Rattle.turn_client_machine.proofs.laws.polling.polls_come_to_an_end.Goals as goal

pub returns-clause-fewer : goal.returns-clause-fewer
returns-clause-fewer c = polls_fewer

pub returns-clause-in_time : goal.returns-clause-in_time
returns-clause-in_time c = polled_in_time
