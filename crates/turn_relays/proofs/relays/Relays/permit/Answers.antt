use Rattle.std.proofs.Common.{◌≡◌, ℕ, ◌≤◌, filter, length, None, get_or, refl, sym, ap, subst, ◌∙◌, arith}
use Rattle.std.specs.Prelude.{◌==◌}
use Rattle.std.specs.Option.{option_map, option_map_or}
use Rattle.std.proofs.lemmas.List.{get_or_default, get_or_past}
use Rattle.stun_endpoints.specs.declared.endpoints.Endpoint.{Endpoint}
use Rattle.turn_machine.specs.Rows.{permissions_after, with_permissions}
use Rattle.turn_machine.specs.Steps.{permitting}
use Rattle.turn_relays.specs.Relayed.{Table, relay_of, relays_in, permitted}
use Rattle.turn_relays.proofs.SlotsLemmas.{asked_of, grants_at, family_is, family_of, relays_size}
use Rattle.turn_relays.proofs.GrantingLemmas.{changed_kept}
use Rattle.turn_relays.proofs.relays.Relays.permit.Goals as goal

pub permit_in-requires : goal.permit_in-requires
permit_in-requires g c =
    let early = c.self.invariant.early in
    let permissions = c.self.invariant.permissions in
    let channels = c.self.invariant.channels in
    let kept : c.index_mut.result.now ≡ get_or c.self.inside.kept.items c.args.slot None = c.index_mut.ensures.value ∙ get_or_default c.self.inside.kept.items c.args.slot _ None (omega (arith, c.if-slot-len.true, c.len.ensures, c.self.inside.kept.ok)) in (
      omega (arith, permissions, channels),
      (
        omega (arith, early),
        subst (λ (n : ℕ). n ≤ g.row.P)
            (sym (asked_of (λ r. length (permissions_after c.self.inside.clock c.args.peers.now r)) (λ x. length (permitted c.self.inside.clock c.family_at-family.result c.args.peers.now x).permissions) 0
            (get_or (relays_in c.self.inside.slots.entries c.self.inside.kept.items) c.args.slot None)
            (λ r at. ap (λ (family : ℕ). length (with_permissions c.self.inside.clock (filter (λ (peer : Endpoint). peer.ip.family == family) c.args.peers.now) r.permissions)) (sym (family_is c.self.inside.slots.entries c.self.inside.kept.items c.args.slot c.entries.result.now c.family_at-family.result c.family_at-family.ensures c.entries.ensures r at)))
            c.index_mut.result.now (kept ∙ grants_at c.self.inside.slots.entries c.self.inside.kept.items c.self.invariant.table.beside c.args.slot)))
            (subst (λ (t : Table). option_map_or (λ r. length (permissions_after t.clock c.args.peers.now r)) (get_or t.slots c.args.slot None) 0 ≤ g.row.P) (sym c.self.view_is) c.requires),
      ),
    )

pub returns-then-slot-len : goal.returns-then-slot-len
returns-then-slot-len g c =
    let kept : c.index_mut.result.now ≡ get_or c.self.inside.kept.items c.args.slot None = c.index_mut.ensures.value ∙ get_or_default c.self.inside.kept.items c.args.slot _ None (omega (arith, c.if-slot-len.true, c.len.ensures, c.self.inside.kept.ok)) in
    rw (← c.self.view_is) (changed_kept c.self.inside.clock c.self.inside.next c.self.inside.slots c.self.inside.kept.items c.self.invariant.table c.args.slot
    (permitted c.self.inside.clock c.family_at-family.result c.args.peers.now) (permitting c.self.inside.clock c.args.peers.now)
    (λ e x at. ap (λ (f : ℕ). relay_of e (permitted c.self.inside.clock f c.args.peers.now x)) (sym (family_of c.self.inside.slots.entries c.args.slot c.entries.result.now c.family_at-family.result c.family_at-family.ensures c.entries.ensures e at)))
    c.permit_in.new.kept (c.permit_in.ensures ∙ ap (option_map (permitted c.self.inside.clock c.family_at-family.result c.args.peers.now)) kept))

pub returns-else-slot-len : goal.returns-else-slot-len
returns-else-slot-len g c =
    let size = relays_size c.self.inside.slots.entries c.self.inside.kept.items in
    let past : get_or (relays_in c.self.inside.slots.entries c.self.inside.kept.items) c.args.slot None ≡ None =
    get_or_past (relays_in c.self.inside.slots.entries c.self.inside.kept.items) c.args.slot None (omega (arith, size, c.if-slot-len.false, c.len.ensures, c.self.inside.kept.ok, c.self.invariant.table.size)) in
    rw (← c.self.view_is) (rw past refl)
