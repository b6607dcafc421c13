use Rattle.turn_allocations.proofs.SteppingLemmas.{calls_run}
use Rattle.turn_allocations.proofs.laws.calls_are_a_run.Goals as goal

pub returns : goal.returns
returns c = calls_run
