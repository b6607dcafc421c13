use Rattle.turn_sessions.proofs.AnswersLemmas.{success_heard}
use Rattle.turn_sessions.proofs.ErrorsLemmas.{challenge_heard, refused_heard}
use Rattle.turn_sessions.proofs.laws.responses.responses_are_judged.Goals as goal

pub returns-clause-success : goal.returns-clause-success
returns-clause-success c = success_heard c.sockets_are_of_endpoints.ensures c.shown_is_found.ensures.first c.shown_is_found.ensures.missing c.fit_responses_are_heard.ensures

pub returns-clause-refused : goal.returns-clause-refused
returns-clause-refused c = refused_heard c.shown_is_found.ensures.first c.shown_is_found.ensures.missing

pub returns-clause-challenged : goal.returns-clause-challenged
returns-clause-challenged c = challenge_heard c.challenge_is_read.ensures
