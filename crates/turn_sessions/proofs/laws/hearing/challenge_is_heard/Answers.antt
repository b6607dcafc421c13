use Rattle.turn_sessions.proofs.ChallengeLemmas.{is_refused, is_taken}
use Rattle.turn_sessions.proofs.laws.hearing.challenge_is_heard.Goals as goal

pub returns-clause-refused : goal.returns-clause-refused
returns-clause-refused c = is_refused c.shown_is_found.ensures.first c.shown_is_found.ensures.missing

pub returns-clause-taken : goal.returns-clause-taken
returns-clause-taken c = is_taken c.challenge_is_read.ensures c.judged_is_authentic.ensures
