use Rattle.std.proofs.Common.{refl}
use Rattle.ice_machine.proofs.FairLemmas.{is_served, is_served_in_run}
use Rattle.ice_machine.proofs.laws.consent.consent_takes_turns.Goals as goal

pub returns-clause-served : goal.returns-clause-served
returns-clause-served c = is_served

pub returns-clause-example : goal.returns-clause-example
returns-clause-example c = refl

pub returns-clause-example_too : goal.returns-clause-example_too
returns-clause-example_too c = refl

pub returns-clause-bounded : goal.returns-clause-bounded
returns-clause-bounded c = is_served_in_run
