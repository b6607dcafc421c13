use Rattle.turn_relays.proofs.FactsLemmas.{ends_possible}
use Rattle.turn_relays.proofs.relays.Relays.ends_are_possible.Goals as goal

pub returns : goal.returns
returns g c = rw (← c.self.view_is) (ends_possible c.self.inside.next c.self.inside.slots c.self.inside.kept.items c.self.invariant.table)
