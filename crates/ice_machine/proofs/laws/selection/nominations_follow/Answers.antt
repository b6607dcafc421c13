use Rattle.ice_machine.proofs.BestLemmas.{names_best}
use Rattle.ice_machine.proofs.NamingLemmas.{is_nominated}
use Rattle.ice_machine.proofs.laws.selection.nominations_follow.Goals as goal

pub returns-clause-follows : goal.returns-clause-follows
returns-clause-follows c = is_nominated

pub returns-clause-best : goal.returns-clause-best
returns-clause-best c = names_best
