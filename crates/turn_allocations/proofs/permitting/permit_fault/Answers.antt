use Rattle.std.proofs.Common.{true, false, sym, ◌∙◌}
use Rattle.turn_relays.specs.Relayed.{state_of}
use Rattle.turn_allocations.specs.Setups.{rules_of}
use Rattle.turn_allocations.proofs.GrantingLemmas.{permit_443, permit_403, permit_last}
use Rattle.turn_allocations.proofs.permitting.permit_fault.Goals as goal

pub returns-then-not-has_families-clause-rows : goal.returns-then-not-has_families-clause-rows
returns-then-not-has_families-clause-rows g c = λ setup tuple user most owns mine.
    permit_443 setup (rules_of (g.A.PeerPolicy.allows_address c.args.policy.now) (g.A.PeerPolicy.allows_port c.args.policy.now)) (state_of c.args.relays.now) tuple user c.args.peers.now
    (sym (c.has_families.ensures c.args.relays.now tuple owns) ∙ c.if-not-has_families.true)

pub returns-then-not-are_allowed-clause-rows : goal.returns-then-not-are_allowed-clause-rows
returns-then-not-are_allowed-clause-rows g c = λ setup tuple user most owns mine.
    permit_403 setup (rules_of (g.A.PeerPolicy.allows_address c.args.policy.now) (g.A.PeerPolicy.allows_port c.args.policy.now)) (state_of c.args.relays.now) tuple user c.args.peers.now
    (sym (c.has_families.ensures c.args.relays.now tuple owns) ∙ c.if-not-has_families.false)
    (sym c.are_allowed.ensures ∙ c.if-not-are_allowed.true)

pub returns-then-lacks_permissions-clause-rows : goal.returns-then-lacks_permissions-clause-rows
returns-then-lacks_permissions-clause-rows g c = λ setup tuple user most owns mine.
    permit_last setup (rules_of (g.A.PeerPolicy.allows_address c.args.policy.now) (g.A.PeerPolicy.allows_port c.args.policy.now)) (state_of c.args.relays.now) tuple user c.args.peers.now
    (sym (c.has_families.ensures c.args.relays.now tuple owns) ∙ c.if-not-has_families.false)
    (sym c.are_allowed.ensures ∙ c.if-not-are_allowed.false)
    true (sym (c.lacks_permissions.ensures.row setup tuple user most owns mine) ∙ c.if-lacks_permissions.true)

pub returns-clause-rows : goal.returns-clause-rows
returns-clause-rows g c = λ setup tuple user most owns mine.
    permit_last setup (rules_of (g.A.PeerPolicy.allows_address c.args.policy.now) (g.A.PeerPolicy.allows_port c.args.policy.now)) (state_of c.args.relays.now) tuple user c.args.peers.now
    (sym (c.has_families.ensures c.args.relays.now tuple owns) ∙ c.if-not-has_families.false)
    (sym c.are_allowed.ensures ∙ c.if-not-are_allowed.false)
    false (sym (c.lacks_permissions.ensures.row setup tuple user most owns mine) ∙ c.if-lacks_permissions.false)

pub returns-clause-room : goal.returns-clause-room
returns-clause-room g c = λ _. c.lacks_permissions.ensures.room c.if-lacks_permissions.false
