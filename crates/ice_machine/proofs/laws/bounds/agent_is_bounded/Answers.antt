use Rattle.ice_machine.proofs.BoundsLemmas.{run_within}
use Rattle.ice_machine.proofs.PaceLemmas.{run_is_paced, least_pace, run_sends_few}
use Rattle.ice_machine.proofs.PlacesLemmas.{run_distinct}
use Rattle.ice_machine.proofs.laws.bounds.agent_is_bounded.Goals as goal

pub returns-clause-kept : goal.returns-clause-kept
returns-clause-kept c = run_within

pub returns-clause-paced : goal.returns-clause-paced
returns-clause-paced c = run_is_paced

pub returns-clause-least : goal.returns-clause-least
returns-clause-least c = least_pace

pub returns-clause-rate : goal.returns-clause-rate
returns-clause-rate c = run_sends_few

pub returns-clause-distinct : goal.returns-clause-distinct
returns-clause-distinct c = run_distinct
