use Rattle.std.proofs.Common.{◌∙◌, sym}
use Rattle.turn_relays.proofs.SlotsLemmas.{users_count}
use Rattle.turn_relays.proofs.relays.Relays.count_by_user.Goals as goal

pub returns : goal.returns
returns g c = rw (← c.self.view_is) (c.count_by_user.ensures ∙ sym (users_count c.args.user c.are_halves.ensures c.self.inside.slots.entries c.self.inside.kept.items c.self.invariant.table.beside c.self.invariant.table.users))
