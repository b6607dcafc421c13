use Rattle.turn_client_machine.proofs.RenewingLemmas.{begun, refreshed, permitted, asked_again, peer_again}
use Rattle.turn_client_machine.proofs.laws.polling.turns_are_used.Goals as goal

pub returns-clause-allocate : goal.returns-clause-allocate
returns-clause-allocate c = begun

pub returns-clause-refresh : goal.returns-clause-refresh
returns-clause-refresh c = refreshed

pub returns-clause-peer : goal.returns-clause-peer
returns-clause-peer c = permitted

pub returns-clause-again : goal.returns-clause-again
returns-clause-again c = asked_again

pub returns-clause-again_peer : goal.returns-clause-again_peer
returns-clause-again_peer c = peer_again
