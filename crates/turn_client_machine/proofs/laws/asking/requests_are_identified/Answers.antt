use Rattle.turn_client_machine.proofs.IdentifiedLemmas.{under_way_sent, asked_once}
use Rattle.turn_client_machine.proofs.laws.asking.requests_are_identified.Goals as goal

pub returns-clause-sent : goal.returns-clause-sent
returns-clause-sent c = under_way_sent

pub returns-clause-one : goal.returns-clause-one
returns-clause-one c = asked_once
