use Rattle.turn_relays.proofs.FactsLemmas.{keys_distinct}
use Rattle.turn_relays.proofs.relays.Relays.keys_are_distinct.Goals as goal

pub returns : goal.returns
returns g c = rw (← c.self.view_is) (keys_distinct c.self.inside.next c.self.inside.slots c.self.inside.kept.items c.self.invariant.table)
