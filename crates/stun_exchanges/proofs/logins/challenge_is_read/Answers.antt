use Rattle.stun_exchanges.proofs.ChallengeLemmas.{challenge_read}
use Rattle.stun_exchanges.proofs.logins.challenge_is_read.Goals as goal

pub returns : goal.returns
returns c = challenge_read c.shown_is_found.ensures.first c.shown_is_found.ensures.missing
