use Rattle.ice_machine.proofs.RolesLemmas.{exchange_settles, crossing_settles, checks_steadily}
use Rattle.ice_machine.proofs.laws.selection.roles_settle.Goals as goal

pub returns-clause-exchange : goal.returns-clause-exchange
returns-clause-exchange c = exchange_settles

pub returns-clause-crossing : goal.returns-clause-crossing
returns-clause-crossing c = crossing_settles

pub returns-clause-steady : goal.returns-clause-steady
returns-clause-steady c = checks_steadily
