use Rattle.turn_relays.proofs.FollowingLemmas.{list_follows}
use Rattle.turn_relays.proofs.laws.list_follows_slots.Goals as goal

pub returns : goal.returns
returns c = list_follows
