use Rattle.turn_slots.proofs.TableLemmas.{key_found, key_absent, if_some, if_none}
use Rattle.turn_slots.proofs.ChangesLemmas.{only_slot}
use Rattle.turn_slots.proofs.slots.Slots.find_by_client.Goals as goal

pub returns-clause-ipv4 : goal.returns-clause-ipv4
returns-clause-ipv4 c =
    let some = if_some c.find_both.result.0 (λ slot is. key_found c.self.inside.entries.items c.self.inside.keys.1 c.self.invariant.table.keys_are (record { tuple = c.args.tuple.now; family = 1 }) slot is) c.find_both.ensures.some in
    let none = if_none c.find_both.result.0 (λ none slot e at. key_absent c.self.inside.entries.items c.self.inside.keys.1 c.self.invariant.table.keys_are (record { tuple = c.args.tuple.now; family = 1 }) slot (none slot) e at) c.find_both.ensures.none in
    rw (← c.self.view_is) (record {
      some = some;
      none = none;
      only = only_slot c.self.inside.round c.self.inside.entries.items c.self.inside.keys.1 c.self.inside.users.1 c.self.inside.holders c.self.inside.deadlines c.self.invariant.table (record { tuple = c.args.tuple.now; family = 1 }) c.find_both.result.0 some none;
    })

pub returns-clause-ipv6 : goal.returns-clause-ipv6
returns-clause-ipv6 c =
    let some = if_some c.find_both.result.1 (λ slot is. key_found c.self.inside.entries.items c.self.inside.keys.1 c.self.invariant.table.keys_are (record { tuple = c.args.tuple.now; family = 2 }) slot is) c.find_both.ensures.second_some in
    let none = if_none c.find_both.result.1 (λ none slot e at. key_absent c.self.inside.entries.items c.self.inside.keys.1 c.self.invariant.table.keys_are (record { tuple = c.args.tuple.now; family = 2 }) slot (none slot) e at) c.find_both.ensures.second_none in
    rw (← c.self.view_is) (record {
      some = some;
      none = none;
      only = only_slot c.self.inside.round c.self.inside.entries.items c.self.inside.keys.1 c.self.inside.users.1 c.self.inside.holders c.self.inside.deadlines c.self.invariant.table (record { tuple = c.args.tuple.now; family = 2 }) c.find_both.result.1 some none;
    })
