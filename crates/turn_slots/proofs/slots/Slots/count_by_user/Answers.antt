use Rattle.std.proofs.Common.{◌∙◌}
use Rattle.turn_slots.proofs.QueriesLemmas.{count_there, count_nowhere}
use Rattle.turn_slots.proofs.slots.Slots.count_by_user.Goals as goal

pub returns-in-Some : goal.returns-in-Some
returns-in-Some c = rw (← c.self.view_is) (c.count.ensures ∙ count_there c.self.inside.round c.self.inside.entries.items c.self.inside.keys.1 c.self.inside.users.1 c.self.inside.holders c.self.inside.deadlines c.self.invariant.table c.args.user c.in-Some.place c.in-Some.ensures.some)

pub returns-in-None : goal.returns-in-None
returns-in-None c = rw (← c.self.view_is) (count_nowhere c.self.inside.round c.self.inside.entries.items c.self.inside.keys.1 c.self.inside.users.1 c.self.inside.holders c.self.inside.deadlines c.self.invariant.table c.args.user c.in-None.ensures.none)
