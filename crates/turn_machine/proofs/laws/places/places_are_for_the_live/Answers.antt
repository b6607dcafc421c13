use Rattle.std.proofs.Common.{refl}
use Rattle.turn_machine.proofs.KeptLemmas.{run_live}
use Rattle.turn_machine.proofs.NumbersLemmas.{given_again}
use Rattle.turn_machine.proofs.NumbersLemmas.{late_dropped}
use Rattle.turn_machine.proofs.NumbersLemmas.{run_once}
use Rattle.turn_machine.proofs.NumbersLemmas.{run_given}
use Rattle.turn_machine.proofs.StrangersLemmas.{not_due}
use Rattle.turn_machine.proofs.laws.places.places_are_for_the_live.Goals as goal

pub returns-clause-live : goal.returns-clause-live
returns-clause-live c = run_live

pub returns-clause-once : goal.returns-clause-once
returns-clause-once c = λ setup events number. (run_once setup events).once number

pub returns-clause-given : goal.returns-clause-given
returns-clause-given c = run_given

pub returns-clause-new : goal.returns-clause-new
returns-clause-new c = given_again

pub returns-clause-late : goal.returns-clause-late
returns-clause-late c = late_dropped

pub returns-clause-due : goal.returns-clause-due
returns-clause-due c = not_due

pub returns-clause-ended : goal.returns-clause-ended
returns-clause-ended c = λ state now. (refl, refl, refl, refl)
