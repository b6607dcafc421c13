use Rattle.std.proofs.Common.{true, false, Some, refl, ap, sym, subst, ◌∙◌}
use Rattle.std.specs.Prelude.{is_some}
use Rattle.turn_relays.specs.Relayed.{state_of}
use Rattle.turn_allocations.specs.Setups.{rules_of, setup_of}
use Rattle.turn_allocations.specs.Clients.{IsFound}
use Rattle.turn_allocations.proofs.GrantingLemmas.{bind_number, bind_clash, bind_family, bind_allowed, bind_last, bind_lacks}
use Rattle.turn_allocations.proofs.binding.bind_fault.Goals as goal

pub returns-then-not-is_channel_number-clause-rows : goal.returns-then-not-is_channel_number-clause-rows
returns-then-not-is_channel_number-clause-rows g c = λ tuple user owns mine.
    bind_number (setup_of c.args.limits.now g.row.P g.row.C) (rules_of (g.A.PeerPolicy.allows_address c.args.policy.now) (g.A.PeerPolicy.allows_port c.args.policy.now)) (state_of c.args.relays.now) tuple user c.args.number c.args.peer
    (sym (c.is_channel_number.ensures g.row.P g.row.C) ∙ c.if-not-is_channel_number.true)

pub returns-then-clashes-clause-rows : goal.returns-then-clashes-clause-rows
returns-then-clashes-clause-rows g c = λ tuple user owns mine.
    bind_clash (setup_of c.args.limits.now g.row.P g.row.C) (rules_of (g.A.PeerPolicy.allows_address c.args.policy.now) (g.A.PeerPolicy.allows_port c.args.policy.now)) (state_of c.args.relays.now) tuple user c.args.number c.args.peer
    (sym (c.is_channel_number.ensures g.row.P g.row.C) ∙ c.if-not-is_channel_number.false)
    (sym (c.clashes.ensures tuple owns) ∙ c.if-clashes.true)

pub returns-in_default-clause-rows : goal.returns-in_default-clause-rows
returns-in_default-clause-rows g c = λ tuple user owns mine.
    bind_family (setup_of c.args.limits.now g.row.P g.row.C) (rules_of (g.A.PeerPolicy.allows_address c.args.policy.now) (g.A.PeerPolicy.allows_port c.args.policy.now)) (state_of c.args.relays.now) tuple user c.args.number c.args.peer
    (sym (c.is_channel_number.ensures g.row.P g.row.C) ∙ c.if-not-is_channel_number.false)
    (sym (c.clashes.ensures tuple owns) ∙ c.if-clashes.false)
    (sym (c.of_family.ensures.some c.args.relays.now tuple owns) ∙ ap is_some c.in_default.is)

pub returns-then-not-allows-clause-rows : goal.returns-then-not-allows-clause-rows
returns-then-not-allows-clause-rows g c = λ tuple user owns mine.
    bind_allowed (setup_of c.args.limits.now g.row.P g.row.C) (rules_of (g.A.PeerPolicy.allows_address c.args.policy.now) (g.A.PeerPolicy.allows_port c.args.policy.now)) (state_of c.args.relays.now) tuple user c.args.number c.args.peer
    (sym (c.is_channel_number.ensures g.row.P g.row.C) ∙ c.if-not-is_channel_number.false)
    (sym (c.clashes.ensures tuple owns) ∙ c.if-clashes.false)
    (sym (c.of_family.ensures.some c.args.relays.now tuple owns) ∙ ap is_some c.in-Some.is)
    (sym c.allows.ensures ∙ c.if-not-allows.true)

pub returns-then-lacks_permissions-lacks_channel-clause-rows : goal.returns-then-lacks_permissions-lacks_channel-clause-rows
returns-then-lacks_permissions-lacks_channel-clause-rows g c = λ tuple user owns mine.
    bind_last (setup_of c.args.limits.now g.row.P g.row.C) (rules_of (g.A.PeerPolicy.allows_address c.args.policy.now) (g.A.PeerPolicy.allows_port c.args.policy.now)) (state_of c.args.relays.now) tuple user c.args.number c.args.peer
    (sym (c.is_channel_number.ensures g.row.P g.row.C) ∙ c.if-not-is_channel_number.false)
    (sym (c.clashes.ensures tuple owns) ∙ c.if-clashes.false)
    (sym (c.of_family.ensures.some c.args.relays.now tuple owns) ∙ ap is_some c.in-Some.is)
    (sym c.allows.ensures ∙ c.if-not-allows.false)
    true
    (bind_lacks c.list_follows_slots.ensures c.lists_have_slots.ensures (setup_of c.args.limits.now g.row.P g.row.C) c.args.relays.now tuple user mine c.args.number c.args.peer
    (Some c.in-Some.place) (subst (IsFound c.args.relays.now tuple c.args.peer.ip.family) c.in-Some.is (c.of_family.ensures.found c.args.relays.now tuple owns))
    c.lacks_permissions.result c.lacks_channel.result (c.lacks_permissions.ensures.row (setup_of c.args.limits.now g.row.P g.row.C) tuple user refl owns mine) c.lacks_channel.ensures
    ∙ c.if-lacks_permissions-lacks_channel.true)

pub returns-clause-rows : goal.returns-clause-rows
returns-clause-rows g c = λ tuple user owns mine.
    bind_last (setup_of c.args.limits.now g.row.P g.row.C) (rules_of (g.A.PeerPolicy.allows_address c.args.policy.now) (g.A.PeerPolicy.allows_port c.args.policy.now)) (state_of c.args.relays.now) tuple user c.args.number c.args.peer
    (sym (c.is_channel_number.ensures g.row.P g.row.C) ∙ c.if-not-is_channel_number.false)
    (sym (c.clashes.ensures tuple owns) ∙ c.if-clashes.false)
    (sym (c.of_family.ensures.some c.args.relays.now tuple owns) ∙ ap is_some c.in-Some.is)
    (sym c.allows.ensures ∙ c.if-not-allows.false)
    false
    (bind_lacks c.list_follows_slots.ensures c.lists_have_slots.ensures (setup_of c.args.limits.now g.row.P g.row.C) c.args.relays.now tuple user mine c.args.number c.args.peer
    (Some c.in-Some.place) (subst (IsFound c.args.relays.now tuple c.args.peer.ip.family) c.in-Some.is (c.of_family.ensures.found c.args.relays.now tuple owns))
    c.lacks_permissions.result c.lacks_channel.result (c.lacks_permissions.ensures.row (setup_of c.args.limits.now g.row.P g.row.C) tuple user refl owns mine) c.lacks_channel.ensures
    ∙ c.if-lacks_permissions-lacks_channel.false)
