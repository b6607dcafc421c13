use Rattle.ice_agent_state.proofs.ReportsLemmas.{status_stays, others_stay, loss_stays, losses_stay}
use Rattle.ice_agent_state.proofs.laws.reports_stay.Goals as goal

pub returns-clause-status : goal.returns-clause-status
returns-clause-status c = status_stays

pub returns-clause-others : goal.returns-clause-others
returns-clause-others c = others_stay

pub returns-clause-loss : goal.returns-clause-loss
returns-clause-loss c = loss_stays

pub returns-clause-losses : goal.returns-clause-losses
returns-clause-losses c = losses_stay
