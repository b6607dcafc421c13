use Rattle.ice_agent_state.proofs.ReportsLemmas.{statuses_send}
use Rattle.ice_agent_state.proofs.laws.statuses_are_routes.Goals as goal

pub returns : goal.returns
returns c = statuses_send
