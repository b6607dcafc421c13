use Rattle.turn_client.proofs.LastingLemmas.{peers_stay_at}
use Rattle.turn_client.proofs.laws.lasting.peers_stay.Goals as goal

pub returns : goal.returns
returns c = peers_stay_at c.judged_is_authentic.ensures c.requests_are_found_by_id.ensures.none c.peers_stay.ensures
