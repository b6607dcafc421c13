use Rattle.std.proofs.Common.{refl}
use Rattle.stun_types_c.proofs.turn_icmp.take_packet.Goals as goal

pub returns-clause-same : goal.returns-clause-same
returns-clause-same c = record {
  access = refl;
  rules = refl;
  limits = c.on_icmp.ensures.is_step.limits_are;
}
