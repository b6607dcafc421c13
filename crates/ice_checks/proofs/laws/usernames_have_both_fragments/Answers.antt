use Rattle.ice_checks.proofs.SessionsLemmas.{named_is_username, username_is_named}
use Rattle.ice_checks.proofs.laws.usernames_have_both_fragments.Goals as goal

pub returns : goal.returns
returns c = λ session username. (named_is_username session username, username_is_named session username)
