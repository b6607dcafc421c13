use Rattle.turn_machine.proofs.DueLemmas.{comes_by_channel}
use Rattle.turn_machine.proofs.DueLemmas.{comes_by_indication}
use Rattle.turn_machine.proofs.laws.relaying.bound_channels_are_used.Goals as goal

pub returns-clause-bound : goal.returns-clause-bound
returns-clause-bound c = comes_by_channel

pub returns-clause-unbound : goal.returns-clause-unbound
returns-clause-unbound c = comes_by_indication
