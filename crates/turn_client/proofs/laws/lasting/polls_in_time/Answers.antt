use Rattle.turn_client.proofs.WakingLemmas.{in_time}
use Rattle.turn_client.proofs.laws.lasting.polls_in_time.Goals as goal

pub returns : goal.returns
returns c client late now moment there free woken clock late_by = in_time client.held.state late now moment there free woken clock late_by
