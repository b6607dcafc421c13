use Rattle.turn_client_machine.proofs.JoinedLemmas.{permits_there, binds_there, lifetime_there}
use Rattle.turn_client_machine.proofs.laws.serving.server_agrees.Goals as goal

pub returns-clause-permission : goal.returns-clause-permission
returns-clause-permission c = permits_there

pub returns-clause-channel : goal.returns-clause-channel
returns-clause-channel c = binds_there

pub returns-clause-lifetime : goal.returns-clause-lifetime
returns-clause-lifetime c = lifetime_there
