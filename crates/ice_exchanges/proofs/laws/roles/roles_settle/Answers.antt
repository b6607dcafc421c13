use Rattle.ice_exchanges.proofs.RolesLemmas.{crosses, settles, steady}
use Rattle.ice_exchanges.proofs.laws.roles.roles_settle.Goals as goal

pub returns-clause-exchange : goal.returns-clause-exchange
returns-clause-exchange c = settles c.sockets_are_of_endpoints.ensures c.roles_settle.ensures.exchange

pub returns-clause-crossing : goal.returns-clause-crossing
returns-clause-crossing c = crosses c.sockets_are_of_endpoints.ensures c.roles_settle.ensures.crossing

pub returns-clause-steady : goal.returns-clause-steady
returns-clause-steady c = steady c.roles_settle.ensures.steady
