use Rattle.stun_exchanges.proofs.ForgingLemmas.{explicit}
use Rattle.stun_exchanges.proofs.forging.forgery_is_explicit.Goals as goal

pub returns : goal.returns
returns c = explicit
