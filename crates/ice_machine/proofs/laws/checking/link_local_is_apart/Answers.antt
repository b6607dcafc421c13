use Rattle.std.proofs.Common.{refl}
use Rattle.ice_machine.proofs.laws.checking.link_local_is_apart.Goals as goal

pub returns-clause-neither : goal.returns-clause-neither
returns-clause-neither c = refl

pub returns-clause-both : goal.returns-clause-both
returns-clause-both c = refl

pub returns-clause-remote : goal.returns-clause-remote
returns-clause-remote c = refl

pub returns-clause-local : goal.returns-clause-local
returns-clause-local c = refl
