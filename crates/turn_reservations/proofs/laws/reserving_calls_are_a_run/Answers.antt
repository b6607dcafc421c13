use Rattle.turn_reservations.proofs.CallsLemmas.{calls_run}
use Rattle.turn_reservations.proofs.laws.reserving_calls_are_a_run.Goals as goal

pub returns : goal.returns
returns c = calls_run c.reservations_are_kept.ensures.state
