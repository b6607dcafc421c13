use Rattle.turn_client_machine.proofs.AddedLemmas.{rounds_rest, named_rests, dropped_rests}
use Rattle.turn_client_machine.proofs.LossLemmas.{served_punctual}
use Rattle.turn_client_machine.proofs.laws.reaching.stays_punctual.Goals as goal

pub returns-clause-rests : goal.returns-clause-rests
returns-clause-rests c = rounds_rest

pub returns-clause-named : goal.returns-clause-named
returns-clause-named c = named_rests

pub returns-clause-served : goal.returns-clause-served
returns-clause-served c = served_punctual

pub returns-clause-dropped : goal.returns-clause-dropped
returns-clause-dropped c = dropped_rests
