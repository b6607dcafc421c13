use Rattle.turn_client_machine.proofs.StayingLemmas.{stays_on}
use Rattle.turn_client_machine.proofs.laws.lasting.peers_stay.Goals as goal

pub returns : goal.returns
returns c = stays_on
