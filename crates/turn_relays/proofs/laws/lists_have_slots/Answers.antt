use Rattle.turn_relays.proofs.ListingLemmas.{list_has}
use Rattle.turn_relays.proofs.laws.lists_have_slots.Goals as goal

pub returns : goal.returns
returns c = list_has
