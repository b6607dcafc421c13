use Rattle.stun_exchanges.proofs.ExampleLemmas.{met}
use Rattle.stun_exchanges.proofs.logins.premises_are_met.Goals as goal

pub returns : goal.returns
returns c = met c.cookie_is_read.ensures
