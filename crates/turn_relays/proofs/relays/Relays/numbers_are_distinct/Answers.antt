use Rattle.turn_relays.proofs.FactsLemmas.{numbers_distinct}
use Rattle.turn_relays.proofs.relays.Relays.numbers_are_distinct.Goals as goal

pub returns : goal.returns
returns g c = rw (← c.self.view_is) (numbers_distinct c.self.inside.next c.self.inside.slots c.self.inside.kept.items c.self.invariant.table)
