use Rattle.turn_peers.proofs.PortsLemmas.{within, whole}
use Rattle.turn_peers.proofs.laws.ports_are_of_allowed_addresses.Goals as goal

pub returns-clause-within : goal.returns-clause-within
returns-clause-within c denied allowed ip port less is = within denied allowed ip port less is

pub returns-clause-whole : goal.returns-clause-whole
returns-clause-whole c denied allowed ip port less are = whole denied allowed ip port less are
