use Rattle.turn_slots.proofs.TableLemmas.{if_some, if_none}
use Rattle.turn_slots.proofs.QueriesLemmas.{whose, none_of}
use Rattle.turn_slots.proofs.slots.Slots.find_by_user.Goals as goal

pub returns-clause-some : goal.returns-clause-some
returns-clause-some c = rw (← c.self.view_is)
    (if_some c.first.result (λ slot it. whose c.self.inside.round c.self.inside.entries.items c.self.inside.keys.1 c.self.inside.users.1 c.self.inside.holders c.self.inside.deadlines c.self.invariant.table c.args.user c.in_ok-place.place c.in_ok-place.ensures.some slot it.0 it.1) c.first.ensures.some)

pub returns-clause-none : goal.returns-clause-none
returns-clause-none c = rw (← c.self.view_is)
    (if_none c.first.result (λ none. none_of c.self.inside.round c.self.inside.entries.items c.self.inside.keys.1 c.self.inside.users.1 c.self.inside.holders c.self.inside.deadlines c.self.invariant.table c.args.user c.in_ok-place.place c.in_ok-place.ensures.some none) c.first.ensures.none)
