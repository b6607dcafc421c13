use Rattle.turn_machine.proofs.ApartLemmas.{runs_alike}
use Rattle.turn_machine.proofs.ApartLemmas.{unseen_others}
use Rattle.turn_machine.proofs.laws.clients.clients_are_apart.Goals as goal

pub returns-clause-alike : goal.returns-clause-alike
returns-clause-alike c = runs_alike

pub returns-clause-others : goal.returns-clause-others
returns-clause-others c = unseen_others
