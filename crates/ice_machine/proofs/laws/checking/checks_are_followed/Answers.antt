use Rattle.ice_machine.proofs.FollowedLemmas.{check_followed}
use Rattle.ice_machine.proofs.laws.checking.checks_are_followed.Goals as goal

pub returns : goal.returns
returns c = check_followed
