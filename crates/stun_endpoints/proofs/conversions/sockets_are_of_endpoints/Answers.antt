use Rattle.stun_endpoints.proofs.ConversionsLemmas.{there_and_back}
use Rattle.stun_endpoints.proofs.conversions.sockets_are_of_endpoints.Goals as goal

pub returns : goal.returns
returns c = there_and_back
