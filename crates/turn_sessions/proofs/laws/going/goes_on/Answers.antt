use Rattle.std.proofs.Common.{◌∷◌}
use Rattle.turn_sessions.proofs.GoingLemmas.{rounds_granted}
use Rattle.turn_sessions.proofs.HearingLemmas.{Laws}
use Rattle.turn_sessions.proofs.laws.going.goes_on.Goals as goal

pub returns : goal.returns
returns c = λ client earlier round rounds lifetime late slack later named peer some useful less calm in_time same known on served.
    let laws : Laws = record {
      sockets = c.sockets_are_of_endpoints.ensures;
      first = c.shown_is_found.ensures.first;
      missing = c.shown_is_found.ensures.missing;
      accepted = c.login_is_accepted.ensures.accepted;
      heard = c.fit_responses_are_heard.ensures;
    } in
    c.goes_on.ensures.punctual client earlier round rounds lifetime late slack later named peer some useful less calm in_time same known on (rounds_granted laws client lifetime late (round ∷ rounds) earlier served)
