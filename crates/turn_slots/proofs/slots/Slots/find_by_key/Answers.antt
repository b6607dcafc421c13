use Rattle.turn_slots.proofs.TableLemmas.{key_found, key_absent, if_some, if_none}
use Rattle.turn_slots.proofs.ChangesLemmas.{only_slot}
use Rattle.turn_slots.proofs.slots.Slots.find_by_key.Goals as goal

pub returns-clause-some : goal.returns-clause-some
returns-clause-some c = rw (← c.self.view_is)
    (if_some c.find.result (λ slot is. key_found c.self.inside.entries.items c.self.inside.keys.1 c.self.invariant.table.keys_are c.args.key.now slot is) c.find.ensures.some)

pub returns-clause-none : goal.returns-clause-none
returns-clause-none c = rw (← c.self.view_is)
    (if_none c.find.result (λ none slot e at. key_absent c.self.inside.entries.items c.self.inside.keys.1 c.self.invariant.table.keys_are c.args.key.now slot (none slot) e at) c.find.ensures.none)

pub returns-clause-only : goal.returns-clause-only
returns-clause-only c = rw (← c.self.view_is)
    (only_slot c.self.inside.round c.self.inside.entries.items c.self.inside.keys.1 c.self.inside.users.1 c.self.inside.holders c.self.inside.deadlines c.self.invariant.table c.args.key.now c.find.result
    (if_some c.find.result (λ slot is. key_found c.self.inside.entries.items c.self.inside.keys.1 c.self.invariant.table.keys_are c.args.key.now slot is) c.find.ensures.some)
    (if_none c.find.result (λ none slot e at. key_absent c.self.inside.entries.items c.self.inside.keys.1 c.self.invariant.table.keys_are c.args.key.now slot (none slot) e at) c.find.ensures.none))
