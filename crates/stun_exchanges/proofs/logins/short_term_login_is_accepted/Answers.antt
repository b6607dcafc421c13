use Rattle.stun_authentication.specs.Requests.{short_term_request}
use Rattle.stun_exchanges.proofs.ShortTermLemmas.{accepted}
use Rattle.stun_exchanges.proofs.TakenLemmas.{taken, short_heard}
use Rattle.stun_exchanges.proofs.logins.short_term_login_is_accepted.Goals as goal

pub returns-clause-accepted : goal.returns-clause-accepted
returns-clause-accepted c = accepted c.shown_is_found.ensures.first

pub returns-clause-heard : goal.returns-clause-heard
returns-clause-heard c = λ sent counts a fingerprint print kind id other before answer name key kept plan usage state understood own named room which works plain fits suits ongoing answers.
    short_heard a print other id answer (short_term_request fingerprint sent kind id before name key) key kept plan usage state understood ongoing plain fits answers
    (taken c.shown_is_found.ensures.first sent counts a fingerprint print kind id other before answer name key kept usage own named room which works plain fits suits)
