use Rattle.std.proofs.Common.{ℕ, List, length, subst}
use Rattle.stun_types_c.specs.TurnIcmp.{IsNotice}
use Rattle.stun_types_c.proofs.turn_icmp.notify.Goals as goal

pub returns : goal.returns
returns c = record {
  same = c.take_packet-to.ensures.same;
  delivery = c.take_packet-to.result;
  notifies = c.take_packet-to.ensures.notifies;
  in_c = subst (λ (numbers : List ℕ). IsNotice c.take_packet-to.result (length numbers) c.in_c.result) c.ended.ensures c.in_c.ensures;
}
