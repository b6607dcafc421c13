use Rattle.turn_relays.proofs.SlotsLemmas.{user_some, user_none}
use Rattle.turn_relays.proofs.relays.Relays.find_by_user.Goals as goal

pub returns-clause-some : goal.returns-clause-some
returns-clause-some g c = rw (← c.self.view_is) (user_some c.args.user c.are_halves.ensures c.self.inside.slots.entries c.self.inside.kept.items c.self.invariant.table.users c.self.invariant.table.beside c.find_by_user.result c.find_by_user.ensures.some)

pub returns-clause-none : goal.returns-clause-none
returns-clause-none g c = rw (← c.self.view_is) (user_none c.args.user c.are_halves.ensures c.self.inside.slots.entries c.self.inside.kept.items c.self.invariant.table.users c.find_by_user.result c.find_by_user.ensures.none)
