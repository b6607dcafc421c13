use Rattle.turn_relays.proofs.SlotsLemmas.{number_some, number_none, number_only}
use Rattle.turn_relays.proofs.relays.Relays.find_by_number.Goals as goal

pub returns-clause-some : goal.returns-clause-some
returns-clause-some g c = rw (← c.self.view_is) (number_some c.args.number c.self.inside.slots.entries c.self.inside.kept.items c.self.invariant.table.beside c.find_by_number.result c.find_by_number.ensures.some)

pub returns-clause-none : goal.returns-clause-none
returns-clause-none g c = rw (← c.self.view_is) (number_none c.args.number c.self.inside.slots.entries c.self.inside.kept.items c.find_by_number.result c.find_by_number.ensures.none)

pub returns-clause-only : goal.returns-clause-only
returns-clause-only g c = rw (← c.self.view_is) (number_only c.args.number c.self.inside.slots.entries c.self.inside.kept.items c.find_by_number.result c.find_by_number.ensures.only)
