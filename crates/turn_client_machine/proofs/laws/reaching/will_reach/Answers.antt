use Rattle.turn_machine.proofs.DueLemmas.{goes_out, goes_on_channel, comes_back}
use Rattle.turn_client_machine.proofs.RelayedLemmas.{sent_relayed}
use Rattle.turn_client_machine.proofs.PunctualLemmas.{punctual_relayed}
use Rattle.turn_client_machine.proofs.BackLemmas.{shown_back}
use Rattle.turn_client_machine.proofs.laws.reaching.will_reach.Goals as goal

pub returns-clause-sent : goal.returns-clause-sent
returns-clause-sent c = sent_relayed goes_out goes_on_channel

pub returns-clause-punctual : goal.returns-clause-punctual
returns-clause-punctual c = punctual_relayed goes_out goes_on_channel

pub returns-clause-back : goal.returns-clause-back
returns-clause-back c = shown_back comes_back
