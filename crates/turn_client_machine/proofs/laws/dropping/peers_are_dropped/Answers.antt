use Rattle.turn_client_machine.proofs.DroppedLemmas.{run_gone, run_quiet}
use Rattle.turn_client_machine.proofs.NamingLemmas.{known_named, permits_named, binds_named}
use Rattle.turn_client_machine.proofs.laws.dropping.peers_are_dropped.Goals as goal

pub returns-clause-gone : goal.returns-clause-gone
returns-clause-gone c = run_gone

pub returns-clause-quiet : goal.returns-clause-quiet
returns-clause-quiet c = run_quiet

pub returns-clause-again : goal.returns-clause-again
returns-clause-again c = known_named

pub returns-clause-room : goal.returns-clause-room
returns-clause-room c = λ setup state now fresh peer family room.
    (permits_named setup state now fresh peer family room, binds_named setup state now fresh peer family room)
