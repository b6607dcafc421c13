use Rattle.turn_machine.proofs.AddressesLemmas.{ip_iff, endpoint_iff, tuple_iff}
use Rattle.turn_machine.proofs.laws.sessions.tests_are_equality.Goals as goal

pub returns-clause-ips : goal.returns-clause-ips
returns-clause-ips c = ip_iff

pub returns-clause-endpoints : goal.returns-clause-endpoints
returns-clause-endpoints c = endpoint_iff

pub returns-clause-tuples : goal.returns-clause-tuples
returns-clause-tuples c = tuple_iff
