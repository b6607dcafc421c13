use Rattle.std.proofs.Common.{refl}
use Rattle.usage_vectors.proofs.Computing.{computing}
use Rattle.usage_vectors.proofs.turn_messages_are_right.Goals as goal

pub returns-clause-allocate : goal.returns-clause-allocate
unfolding computing
returns-clause-allocate c = record {
  parses = refl;
  type_is = refl;
  id_is = refl;
  shows = refl;
  encoded = refl;
  cut = refl;
}

pub returns-clause-relayed : goal.returns-clause-relayed
unfolding computing
returns-clause-relayed c = record {
  family_is = refl;
  port_is = refl;
  octets_are = refl;
  plain = record {
    flowinfo = refl;
    scope_id = refl;
  };
}

pub returns-clause-bind : goal.returns-clause-bind
unfolding computing
returns-clause-bind c = record {
  parses = refl;
  type_is = refl;
  id_is = refl;
  shows = refl;
  encoded = refl;
  cut = refl;
}

pub returns-clause-peer : goal.returns-clause-peer
unfolding computing
returns-clause-peer c = record {
  family_is = refl;
  port_is = refl;
  octets_are = refl;
  plain = record {
    flowinfo = refl;
    scope_id = refl;
  };
}

pub returns-clause-indication : goal.returns-clause-indication
unfolding computing
returns-clause-indication c = record {
  parses = refl;
  type_is = refl;
  id_is = refl;
  shows = refl;
  encoded = refl;
  cut = refl;
}

pub returns-clause-peer_ipv6 : goal.returns-clause-peer_ipv6
unfolding computing
returns-clause-peer_ipv6 c = record {
  family_is = refl;
  port_is = refl;
  octets_are = refl;
  plain = record {
    flowinfo = refl;
    scope_id = refl;
  };
}

pub returns-clause-written : goal.returns-clause-written
unfolding computing
returns-clause-written c = refl
