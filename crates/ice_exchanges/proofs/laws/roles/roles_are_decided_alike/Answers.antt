use Rattle.ice_exchanges.proofs.RolesLemmas.{decided_alike}
use Rattle.ice_exchanges.proofs.laws.roles.roles_are_decided_alike.Goals as goal

pub returns : goal.returns
returns c = decided_alike
