use Rattle.std.proofs.Common.{ℕ, List, length, subst}
use Rattle.stun_types_c.specs.TurnPeers.{IsDelivery}
use Rattle.stun_types_c.proofs.turn_peer.receive.Goals as goal

pub returns : goal.returns
returns c = record {
  same = c.take_datagram-to.ensures.same;
  delivery = c.take_datagram-to.result;
  receives = c.take_datagram-to.ensures.receives;
  in_c = subst (λ (numbers : List ℕ). IsDelivery c.take_datagram-to.result (length numbers) c.in_c.result) c.ended.ensures c.in_c.ensures;
}
