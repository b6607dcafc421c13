use Rattle.turn_client_machine.specs.Steps.{at}
use Rattle.turn_client_state.proofs.WakingLemmas.{rests}
use Rattle.turn_client_state.proofs.waking.polls_before_do_nothing.Goals as goal

pub returns : goal.returns
returns c = λ setup state now fresh before. rests setup fresh (at now state) before
