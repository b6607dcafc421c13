use Rattle.turn_server.specs.Sites.{site_of}
use Rattle.turn_server.proofs.RecentLemmas.{is_recent}
use Rattle.turn_server.proofs.laws.requests_are_authentic.Goals as goal

pub returns-clause-login : goal.returns-clause-login
returns-clause-login c = λ site d user key algorithm reply is.
    c.accepted_is_authentic.ensures.login site.policy site.realm site.nonces site.keys d user key algorithm reply is.decided

pub returns-clause-authentic : goal.returns-clause-authentic
returns-clause-authentic c = λ site d user key algorithm reply bytes is.
    c.accepted_is_authentic.ensures.long_term site.policy site.realm site.nonces site.keys d user key algorithm reply bytes is.of_class.parses is.decided

pub returns-clause-recent : goal.returns-clause-recent
returns-clause-recent c = λ access sockets keys client now d user key algorithm reply is.
    let site = site_of access sockets keys client now in
    let login = c.accepted_is_authentic.ensures.login site.policy site.realm site.nonces site.keys d user key algorithm reply is.decided in
    is_recent c.nonces_are_timed.ensures.own access client now d login.nonce login.sent login.shown login.is_valid
