use Rattle.turn_client_machine.proofs.RestingLemmas.{requests_rest, data_rests, numbers_kept}
use Rattle.turn_client_machine.proofs.laws.dropping.numbers_rest.Goals as goal

pub returns-clause-requests : goal.returns-clause-requests
returns-clause-requests c = requests_rest

pub returns-clause-data : goal.returns-clause-data
returns-clause-data c = data_rests

pub returns-clause-kept : goal.returns-clause-kept
returns-clause-kept c = numbers_kept
