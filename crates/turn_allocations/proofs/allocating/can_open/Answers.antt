use Rattle.std.proofs.Common.{not, ap, ◌∙◌}
use Rattle.std.proofs.lemmas.Bool.{and_parts}
use Rattle.turn_slots.specs.Users.{user_number}
use Rattle.turn_machine.specs.Relays.{is_for}
use Rattle.turn_relays.specs.Relayed.{state_of}
use Rattle.turn_allocations.specs.Setups.{setup_of}
use Rattle.turn_allocations.proofs.AllocatingLemmas.{can_is, found_any, each_slot_fails}
use Rattle.turn_allocations.proofs.allocating.can_open.Goals as goal

pub returns-clause-can : goal.returns-clause-can
returns-clause-can g c ready =
    let t = c.args.relays.now in
    let key = c.args.key.now in
    let any = found_any c.list_follows_slots.ensures c.lists_have_slots.ensures t (is_for key.tuple key.family) c.find_by_key.result c.find_by_key.ensures.some c.find_by_key.ensures.none in
    can_is (setup_of c.args.limits.now g.row.P g.row.C) key.tuple (user_number c.args.user) key.family ready (state_of t)
    c.supports.result c.has_quota.result c.has_room.result c.is_none-is_free.result
    c.supports.ensures c.has_quota.ensures c.has_room.ensures.room (any ∙ c.is_none-is_free.ensures)

pub returns-clause-key : goal.returns-clause-key
returns-clause-key g c can =
    let t = c.args.relays.now in
    let key = c.args.key.now in
    let any = found_any c.list_follows_slots.ensures c.lists_have_slots.ensures t (is_for key.tuple key.family) c.find_by_key.result c.find_by_key.ensures.some c.find_by_key.ensures.none in
    let is_free = (and_parts _ c.is_none-is_free.result can).1 in
    each_slot_fails c.lists_have_slots.ensures t (is_for key.tuple key.family) (any ∙ (c.is_none-is_free.ensures ∙ ap not is_free))
