use Rattle.ice_machine.proofs.LastingLemmas.{data_lasts, free_poll}
use Rattle.ice_machine.proofs.laws.consent.consent_lasts.Goals as goal

pub returns-clause-data : goal.returns-clause-data
returns-clause-data c = data_lasts

pub returns-clause-free : goal.returns-clause-free
returns-clause-free c = free_poll
