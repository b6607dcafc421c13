use Rattle.turn_client_machine.specs.Steps.{at}
use Rattle.turn_client_machine.proofs.NamingLemmas.{permits_named, binds_named, with_room}
use Rattle.turn_client_machine.proofs.NumbersLemmas.{run_family}
use Rattle.turn_client_machine.proofs.laws.bounds.peers_are_named.Goals as goal

pub returns-clause-family : goal.returns-clause-family
returns-clause-family c = run_family

pub returns-clause-permitted : goal.returns-clause-permitted
returns-clause-permitted c = λ setup state now fresh peer family less. permits_named setup state now fresh peer family (with_room setup (at now state).clock state.peers less)

pub returns-clause-bound : goal.returns-clause-bound
returns-clause-bound c = λ setup state now fresh peer family less. binds_named setup state now fresh peer family (with_room setup (at now state).clock state.peers less)
