use Rattle.turn_client_machine.proofs.AtOnceLemmas.{run_at_once}
use Rattle.turn_client_machine.proofs.FewLemmas.{run_within}
use Rattle.turn_client_machine.proofs.NumbersLemmas.{run_numbered}
use Rattle.turn_client_machine.proofs.laws.bounds.client_is_bounded.Goals as goal

pub returns-clause-kept : goal.returns-clause-kept
returns-clause-kept c = run_within

pub returns-clause-numbered : goal.returns-clause-numbered
returns-clause-numbered c = run_numbered

pub returns-clause-at_once : goal.returns-clause-at_once
returns-clause-at_once c = run_at_once
