use Rattle.ice_machine.proofs.PlacesLemmas.{step_over}
use Rattle.ice_machine.proofs.FinalLemmas.{never_again, consent_ends}
use Rattle.ice_machine.proofs.laws.consent.lost_consent_is_final.Goals as goal

pub returns-clause-kept : goal.returns-clause-kept
returns-clause-kept c = step_over

pub returns-clause-silent : goal.returns-clause-silent
returns-clause-silent c = never_again

pub returns-clause-ends : goal.returns-clause-ends
returns-clause-ends c = consent_ends
