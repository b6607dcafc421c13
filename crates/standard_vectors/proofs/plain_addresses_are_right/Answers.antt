use Rattle.std.proofs.Common.{refl}
use Rattle.standard_vectors.proofs.Computing.{validating}
use Rattle.standard_vectors.proofs.plain_addresses_are_right.Goals as goal

pub returns-clause-read : goal.returns-clause-read
unfolding validating
returns-clause-read c = refl

pub returns-clause-written : goal.returns-clause-written
unfolding validating
returns-clause-written c = refl

pub returns-clause-no_family : goal.returns-clause-no_family
unfolding validating
returns-clause-no_family c = refl

pub returns-clause-half_ipv6 : goal.returns-clause-half_ipv6
unfolding validating
returns-clause-half_ipv6 c = refl
