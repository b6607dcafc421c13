use Rattle.ice_exchanges.proofs.CallsLemmas.{consented}
use Rattle.ice_exchanges.proofs.laws.sending.data_is_consented.Goals as goal

pub returns : goal.returns
returns c = consented c.events_are_authentic.ensures.event c.datagrams_are_warranted.ensures.state c.datagrams_are_warranted.ensures.right
