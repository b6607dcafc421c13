use Rattle.turn_client_machine.proofs.KeptLemmas.{stays_allocated, stays_for}
use Rattle.turn_client_machine.proofs.laws.lasting.kept_alive.Goals as goal

pub returns-clause-allocation : goal.returns-clause-allocation
returns-clause-allocation c = stays_allocated

pub returns-clause-peer : goal.returns-clause-peer
returns-clause-peer c = stays_for
