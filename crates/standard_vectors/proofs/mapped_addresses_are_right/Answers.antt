use Rattle.std.proofs.Common.{refl}
use Rattle.standard_vectors.proofs.Computing.{validating}
use Rattle.standard_vectors.proofs.mapped_addresses_are_right.Goals as goal

pub returns-clause-ipv4 : goal.returns-clause-ipv4
unfolding validating
returns-clause-ipv4 c = record {
  family_is = refl;
  port_is = refl;
  octets_are = refl;
  plain = record {
    flowinfo = refl;
    scope_id = refl;
  };
}

pub returns-clause-ipv6 : goal.returns-clause-ipv6
unfolding validating
returns-clause-ipv6 c = record {
  family_is = refl;
  port_is = refl;
  octets_are = refl;
  plain = record {
    flowinfo = refl;
    scope_id = refl;
  };
}
