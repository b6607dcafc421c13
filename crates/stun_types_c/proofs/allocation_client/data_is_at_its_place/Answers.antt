use Rattle.stun_grammar.proofs.NumbersLemmas.{IsBytes-from}
use Rattle.stun_types_c.proofs.AllocationLemmas.{data_stands}
use Rattle.stun_types_c.proofs.allocation_client.data_is_at_its_place.Goals as goal

pub returns : goal.returns
returns c = λ client now from peer bytes is.
    data_stands client now from c.args.datagram.now peer bytes (IsBytes-from c.args.datagram.now (λ i. (c.type_inv.datagram i).fits)) is
