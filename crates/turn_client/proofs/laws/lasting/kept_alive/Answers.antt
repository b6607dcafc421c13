use Rattle.turn_client.proofs.LastingLemmas.{stays}
use Rattle.turn_client.proofs.laws.lasting.kept_alive.Goals as goal

pub returns : goal.returns
returns c = stays c.judged_is_authentic.ensures c.requests_are_found_by_id.ensures.none c.ends_for_a_reason.ensures
