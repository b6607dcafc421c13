use Rattle.turn_relays.proofs.FactsLemmas.{numbers_slots}
use Rattle.turn_relays.proofs.relays.Relays.numbers_have_slots.Goals as goal

pub returns : goal.returns
returns g c = rw (← c.self.view_is) (numbers_slots c.self.inside.next c.self.inside.slots c.self.inside.kept.items c.self.invariant.table)
