use Rattle.std.proofs.Common.{refl}
use Rattle.turn_client_machine.proofs.StayingLemmas.{few_attempts}
use Rattle.turn_client_machine.proofs.laws.bounds.attempts_are_few.Goals as goal

pub returns-clause-few : goal.returns-clause-few
returns-clause-few c = few_attempts

pub returns-clause-rests : goal.returns-clause-rests
returns-clause-rests c = (refl, refl, refl)
