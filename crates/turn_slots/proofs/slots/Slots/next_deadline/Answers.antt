use Rattle.turn_slots.proofs.QueriesLemmas.{all_free, some_due, least_below}
use Rattle.turn_slots.proofs.slots.Slots.next_deadline.Goals as goal

pub returns-then-least-clause-none : goal.returns-then-least-clause-none
returns-then-least-clause-none c = rw (← c.self.view_is) (all_free c.self.inside.round c.self.inside.entries.items c.self.inside.keys.1 c.self.inside.users.1 c.self.inside.holders c.self.inside.deadlines c.self.invariant.table c.least-least.result c.least-least.ensures.some c.if-least.true)

pub returns-clause-some : goal.returns-clause-some
returns-clause-some c = rw (← c.self.view_is)
    (some_due c.self.inside.round c.self.inside.entries.items c.self.inside.keys.1 c.self.inside.users.1 c.self.inside.holders c.self.inside.deadlines c.self.invariant.table c.least-least.result c.least-least.ensures.some c.least-least.ensures.none c.if-least.false, least_below c.self.inside.round c.self.inside.entries.items c.self.inside.keys.1 c.self.inside.users.1 c.self.inside.holders c.self.inside.deadlines c.self.invariant.table c.least-least.result c.least-least.ensures.some)
