use Rattle.std.proofs.Common.{ℕ, false, length, filter, None, Some, get_or, sym, ap, ◌∙◌}
use Rattle.std.specs.Prelude.{nat_lt, ◌==◌}
use Rattle.stun_endpoints.specs.declared.endpoints.Endpoint.{Endpoint}
use Rattle.turn_machine.specs.Rows.{permissions_after, with_permissions}
use Rattle.turn_relays.specs.Relayed.{relays_in}
use Rattle.turn_relays.proofs.SlotsLemmas.{asked_of, kept_is, family_is}
use Rattle.turn_relays.proofs.relays.Relays.lacks_permissions.Goals as goal

pub returns-in-Some : goal.returns-in-Some
returns-in-Some g c =
    rw (← c.self.view_is) (c.lacks_permissions.ensures ∙ asked_of (λ r. nat_lt g.row.P (length (permissions_after c.self.inside.clock c.args.peers.now r))) (λ x. nat_lt g.row.P (length (with_permissions c.self.inside.clock (filter (λ (peer : Endpoint). peer.ip.family == c.family_at-family.result) c.args.peers.now) x.permissions))) false (get_or (relays_in c.self.inside.slots.entries c.self.inside.kept.items) c.args.slot None) (λ r at. ap (λ (family : ℕ). nat_lt g.row.P (length (with_permissions c.self.inside.clock (filter (λ (peer : Endpoint). peer.ip.family == family) c.args.peers.now) r.permissions))) (sym (family_is c.self.inside.slots.entries c.self.inside.kept.items c.args.slot c.entries.result.now c.family_at-family.result c.family_at-family.ensures c.entries.ensures r at))) (Some c.in-Some.kept.now) (kept_is c.self.inside.slots.entries c.self.inside.kept.items c.self.invariant.table.beside c.args.slot c.deref.result.now (Some c.in-Some.kept.now) c.in-Some.ensures c.deref.ensures.value))

pub returns-in-None : goal.returns-in-None
returns-in-None g c =
    rw (← c.self.view_is) (asked_of (λ r. nat_lt g.row.P (length (permissions_after c.self.inside.clock c.args.peers.now r))) (λ x. nat_lt g.row.P (length (with_permissions c.self.inside.clock (filter (λ (peer : Endpoint). peer.ip.family == c.family_at-family.result) c.args.peers.now) x.permissions))) false (get_or (relays_in c.self.inside.slots.entries c.self.inside.kept.items) c.args.slot None) (λ r at. ap (λ (family : ℕ). nat_lt g.row.P (length (with_permissions c.self.inside.clock (filter (λ (peer : Endpoint). peer.ip.family == family) c.args.peers.now) r.permissions))) (sym (family_is c.self.inside.slots.entries c.self.inside.kept.items c.args.slot c.entries.result.now c.family_at-family.result c.family_at-family.ensures c.entries.ensures r at))) None (kept_is c.self.inside.slots.entries c.self.inside.kept.items c.self.invariant.table.beside c.args.slot c.deref.result.now None c.in-None.ensures c.deref.ensures.value))
