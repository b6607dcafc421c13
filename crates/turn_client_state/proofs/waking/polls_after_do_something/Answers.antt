use Rattle.turn_client_machine.specs.Steps.{at}
use Rattle.turn_client_state.proofs.WakingLemmas.{works}
use Rattle.turn_client_state.proofs.waking.polls_after_do_something.Goals as goal

pub returns : goal.returns
returns c = λ setup state now fresh later same. works setup fresh (at now state) later same
