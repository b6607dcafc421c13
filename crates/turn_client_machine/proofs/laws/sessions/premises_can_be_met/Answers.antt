use Rattle.turn_client_machine.proofs.MeetingsLemmas.{joined_1, punctual_1, settled_1}
use Rattle.turn_client_machine.proofs.laws.sessions.premises_can_be_met.Goals as goal

pub returns-clause-joined : goal.returns-clause-joined
returns-clause-joined c = joined_1

pub returns-clause-punctual : goal.returns-clause-punctual
returns-clause-punctual c = punctual_1

pub returns-clause-settled : goal.returns-clause-settled
returns-clause-settled c = settled_1
