use Rattle.turn_relays.proofs.SlotsLemmas.{key_some, key_none, key_only}
use Rattle.turn_relays.proofs.relays.Relays.find_by_key.Goals as goal

pub returns-clause-some : goal.returns-clause-some
returns-clause-some g c = rw (← c.self.view_is) (key_some c.args.key.now c.self.inside.slots.entries c.self.inside.kept.items c.self.invariant.table.beside c.find_by_key.result c.find_by_key.ensures.some)

pub returns-clause-none : goal.returns-clause-none
returns-clause-none g c = rw (← c.self.view_is) (key_none c.args.key.now c.self.inside.slots.entries c.self.inside.kept.items c.find_by_key.result c.find_by_key.ensures.none)

pub returns-clause-only : goal.returns-clause-only
returns-clause-only g c = rw (← c.self.view_is) (key_only c.args.key.now c.self.inside.slots.entries c.self.inside.kept.items c.find_by_key.result c.find_by_key.ensures.only)
