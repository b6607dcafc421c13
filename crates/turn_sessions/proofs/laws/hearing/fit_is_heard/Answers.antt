use Rattle.turn_sessions.specs.Hearing.{sent_by}
use Rattle.turn_sessions.proofs.HearingLemmas.{Laws, bind_heard, open_heard, permit_heard, refresh_heard}
use Rattle.turn_sessions.proofs.laws.hearing.fit_is_heard.Goals as goal

pub returns-clause-opened : goal.returns-clause-opened
returns-clause-opened c =
    let laws : Laws = record {
      sockets = c.sockets_are_of_endpoints.ensures;
      first = c.shown_is_found.ensures.first;
      missing = c.shown_is_found.ensures.missing;
      accepted = c.login_is_accepted.ensures.accepted;
      heard = c.fit_responses_are_heard.ensures;
    } in
    λ client r others login. open_heard laws (sent_by client r others login)

pub returns-clause-refreshed : goal.returns-clause-refreshed
returns-clause-refreshed c =
    let laws : Laws = record {
      sockets = c.sockets_are_of_endpoints.ensures;
      first = c.shown_is_found.ensures.first;
      missing = c.shown_is_found.ensures.missing;
      accepted = c.login_is_accepted.ensures.accepted;
      heard = c.fit_responses_are_heard.ensures;
    } in
    λ client r others login. refresh_heard laws (sent_by client r others login)

pub returns-clause-permitted : goal.returns-clause-permitted
returns-clause-permitted c =
    let laws : Laws = record {
      sockets = c.sockets_are_of_endpoints.ensures;
      first = c.shown_is_found.ensures.first;
      missing = c.shown_is_found.ensures.missing;
      accepted = c.login_is_accepted.ensures.accepted;
      heard = c.fit_responses_are_heard.ensures;
    } in
    λ client r others login. permit_heard laws (sent_by client r others login)

pub returns-clause-bound : goal.returns-clause-bound
returns-clause-bound c =
    let laws : Laws = record {
      sockets = c.sockets_are_of_endpoints.ensures;
      first = c.shown_is_found.ensures.first;
      missing = c.shown_is_found.ensures.missing;
      accepted = c.login_is_accepted.ensures.accepted;
      heard = c.fit_responses_are_heard.ensures;
    } in
    λ client r others login. bind_heard laws (sent_by client r others login)
