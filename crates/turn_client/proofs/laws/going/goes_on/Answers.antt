use Rattle.turn_client.proofs.RoundsLemmas.{opened_rests, rounds_rest, stays_punctual, wish_rests}
use Rattle.turn_client.proofs.laws.going.goes_on.Goals as goal

pub returns-clause-opened : goal.returns-clause-opened
returns-clause-opened c = opened_rests

pub returns-clause-rests : goal.returns-clause-rests
returns-clause-rests c = rounds_rest

pub returns-clause-wished : goal.returns-clause-wished
returns-clause-wished c = wish_rests

pub returns-clause-punctual : goal.returns-clause-punctual
returns-clause-punctual c = stays_punctual
