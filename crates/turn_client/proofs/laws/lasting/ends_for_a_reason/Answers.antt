use Rattle.turn_client.proofs.LastingLemmas.{ends}
use Rattle.turn_client.proofs.laws.lasting.ends_for_a_reason.Goals as goal

pub returns : goal.returns
returns c = ends c.judged_is_authentic.ensures c.requests_are_found_by_id.ensures.none c.ends_for_a_reason.ensures
