use Rattle.stun_framing.proofs.ComingLemmas.{none, comes, stops}
use Rattle.stun_framing.proofs.laws.calls_go_on.Goals as goal

pub returns-clause-none : goal.returns-clause-none
returns-clause-none c = none

pub returns-clause-comes : goal.returns-clause-comes
returns-clause-comes c = comes

pub returns-clause-stops : goal.returns-clause-stops
returns-clause-stops c = stops
