use Rattle.turn_client_messages.proofs.OriginsLemmas.{only_by_id}
use Rattle.turn_client_messages.proofs.laws.requests_are_found_by_id.Goals as goal

pub returns-clause-other : goal.returns-clause-other
returns-clause-other c = only_by_id
