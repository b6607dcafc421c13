use Rattle.turn_attrs.proofs.ProtocolsLemmas.{not_stun, high_method}
use Rattle.turn_attrs.proofs.protocols.stun_begins_low.Goals as goal

pub returns-clause-other : goal.returns-clause-other
returns-clause-other c = not_stun

pub returns-clause-reserved : goal.returns-clause-reserved
returns-clause-reserved c = high_method
