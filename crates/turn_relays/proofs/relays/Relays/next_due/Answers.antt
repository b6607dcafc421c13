use Rattle.turn_relays.proofs.FactsLemmas.{first_end, none_ends}
use Rattle.turn_relays.proofs.relays.Relays.next_due.Goals as goal

pub returns-clause-some : goal.returns-clause-some
returns-clause-some g c = rw (← c.self.view_is) (first_end c.self.inside.next c.self.inside.slots c.self.inside.kept.items c.self.invariant.table c.self.inside.clock c.next_deadline.result c.next_deadline.ensures.some)

pub returns-clause-none : goal.returns-clause-none
returns-clause-none g c = rw (← c.self.view_is) (none_ends c.self.inside.next c.self.inside.slots c.self.inside.kept.items c.self.invariant.table c.next_deadline.result c.next_deadline.ensures.none)
