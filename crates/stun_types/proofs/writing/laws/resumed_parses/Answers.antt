use Rattle.stun_types.proofs.ResumedParsesLemmas.{is_there, unprinted, parses, shows, steps_parse, more_parse}
use Rattle.stun_types.proofs.writing.laws.resumed_parses.Goals as goal

pub returns-clause-unprinted : goal.returns-clause-unprinted
returns-clause-unprinted c = unprinted

pub returns-clause-parses : goal.returns-clause-parses
returns-clause-parses c greatest message steps bytes e = steps_parse greatest message steps (is_there message bytes e)

pub returns-clause-more_parses : goal.returns-clause-more_parses
returns-clause-more_parses c greatest message step steps bytes e = more_parse greatest message step steps (is_there message bytes e)

pub returns-clause-step_parses : goal.returns-clause-step_parses
returns-clause-step_parses c greatest message step bytes e lawful plain ok = parses greatest message step (is_there message bytes e) lawful ok plain

pub returns-clause-step_shows : goal.returns-clause-step_shows
returns-clause-step_shows c greatest message step bytes e lawful plain ok = shows greatest message step (is_there message bytes e) lawful ok plain
