use Rattle.turn_client_machine.proofs.DeletingLemmas.{useless_opened, useless_refreshed, deleted}
use Rattle.turn_client_machine.proofs.laws.polling.useless_is_deleted.Goals as goal

pub returns-clause-opened : goal.returns-clause-opened
returns-clause-opened c = useless_opened

pub returns-clause-refreshed : goal.returns-clause-refreshed
returns-clause-refreshed c = useless_refreshed

pub returns-clause-deleted : goal.returns-clause-deleted
returns-clause-deleted c = deleted
