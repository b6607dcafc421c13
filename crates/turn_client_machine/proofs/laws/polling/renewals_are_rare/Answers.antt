use Rattle.turn_client_machine.proofs.RareLemmas.{opened_rests, refreshed_rests, poll_waits}
use Rattle.turn_client_machine.proofs.laws.polling.renewals_are_rare.Goals as goal

pub returns-clause-opened : goal.returns-clause-opened
returns-clause-opened c = opened_rests

pub returns-clause-refreshed : goal.returns-clause-refreshed
returns-clause-refreshed c = refreshed_rests

pub returns-clause-waits : goal.returns-clause-waits
returns-clause-waits c = poll_waits
