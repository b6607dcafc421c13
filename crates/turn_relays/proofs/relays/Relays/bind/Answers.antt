use Rattle.std.proofs.Common.{◌≡◌, ℕ, ◌≤◌, [], ◌∷◌, length, None, get_or, refl, sym, ap, subst, ◌∙◌, arith}
use Rattle.std.specs.Option.{option_map, option_map_or}
use Rattle.std.proofs.lemmas.List.{get_or_default, get_or_past}
use Rattle.turn_machine.specs.Rows.{permissions_after, with_channel}
use Rattle.turn_machine.specs.Steps.{binding}
use Rattle.turn_relays.specs.Relayed.{Table, relays_in, bound}
use Rattle.turn_relays.proofs.SlotsLemmas.{asked_of, grants_at, family_is, family_of, relays_size, table_of}
use Rattle.turn_relays.proofs.GrantingLemmas.{changed_same, changed_kept, room_for_peer, binding_is, binding_not}
use Rattle.turn_relays.proofs.relays.Relays.bind.Goals as goal

pub returns-then-peer-family : goal.returns-then-peer-family
returns-then-peer-family g c =
    rw (← c.self.view_is) (changed_same c.args.slot (binding c.args.permission_seconds c.self.inside.clock c.args.number c.args.peer) (table_of c.self.inside.clock c.self.inside.next c.self.inside.slots c.self.inside.kept.items)
    (λ r at. binding_not c.args.permission_seconds c.self.inside.clock c.args.number c.args.peer r
    (λ is. c.if-peer-family.true (is ∙ sym (family_is c.self.inside.slots.entries c.self.inside.kept.items c.args.slot c.entries.result.now c.family_at-family.result c.family_at-family.ensures c.entries.ensures r at)))))

pub bind_in-requires : goal.bind_in-requires
bind_in-requires g c =
    let early = c.self.invariant.early in
    let permissions = c.self.invariant.permissions in
    let channels = c.self.invariant.channels in
    let kept : c.index_mut.result.now ≡ get_or c.self.inside.kept.items c.args.slot None = c.index_mut.ensures.value ∙ get_or_default c.self.inside.kept.items c.args.slot _ None (omega (arith, c.if-slot-len.true, c.len.ensures, c.self.inside.kept.ok)) in
    let granted = kept ∙ grants_at c.self.inside.slots.entries c.self.inside.kept.items c.self.invariant.table.beside c.args.slot in
    let relay = get_or (relays_in c.self.inside.slots.entries c.self.inside.kept.items) c.args.slot None in (
      omega (arith, permissions, channels),
      (
        early,
        (
          subst (λ (n : ℕ). n ≤ g.row.P)
              (sym (asked_of (λ r. length (permissions_after c.self.inside.clock (c.args.peer ∷ []) r)) (λ x. length (bound c.args.permission_seconds c.self.inside.clock c.args.number c.args.peer x).permissions) 0
              (get_or (relays_in c.self.inside.slots.entries c.self.inside.kept.items) c.args.slot None)
              (λ r at. room_for_peer c.args.permission_seconds c.self.inside.clock c.args.peer r (c.if-peer-family.false ∙ family_is c.self.inside.slots.entries c.self.inside.kept.items c.args.slot c.entries.result.now c.family_at-family.result c.family_at-family.ensures c.entries.ensures r at))
              c.index_mut.result.now granted))
              (subst (λ (t : Table). option_map_or (λ r. length (permissions_after t.clock (c.args.peer ∷ []) r)) (get_or t.slots c.args.slot None) 0 ≤ g.row.P) (sym c.self.view_is) c.requires.permissions),
          subst (λ (n : ℕ). n ≤ g.row.C)
              (sym (asked_of (λ r. length (with_channel c.self.inside.clock c.args.number c.args.peer r.channels)) (λ x. length (bound c.args.permission_seconds c.self.inside.clock c.args.number c.args.peer x).channels) 0
              (get_or (relays_in c.self.inside.slots.entries c.self.inside.kept.items) c.args.slot None) (λ r at. refl)
              c.index_mut.result.now granted))
              (subst (λ (t : Table). option_map_or (λ r. length (with_channel t.clock c.args.number c.args.peer r.channels)) (get_or t.slots c.args.slot None) 0 ≤ g.row.C) (sym c.self.view_is) c.requires.channels),
        ),
      ),
    )

pub returns-then-slot-len : goal.returns-then-slot-len
returns-then-slot-len g c =
    let kept : c.index_mut.result.now ≡ get_or c.self.inside.kept.items c.args.slot None = c.index_mut.ensures.value ∙ get_or_default c.self.inside.kept.items c.args.slot _ None (omega (arith, c.if-slot-len.true, c.len.ensures, c.self.inside.kept.ok)) in
    rw (← c.self.view_is) (changed_kept c.self.inside.clock c.self.inside.next c.self.inside.slots c.self.inside.kept.items c.self.invariant.table c.args.slot
    (bound c.args.permission_seconds c.self.inside.clock c.args.number c.args.peer) (binding c.args.permission_seconds c.self.inside.clock c.args.number c.args.peer)
    (λ e x at. binding_is c.args.permission_seconds c.self.inside.clock c.args.number c.args.peer e x (c.if-peer-family.false ∙ family_of c.self.inside.slots.entries c.args.slot c.entries.result.now c.family_at-family.result c.family_at-family.ensures c.entries.ensures e at))
    c.bind_in.new.kept (c.bind_in.ensures ∙ ap (option_map (bound c.args.permission_seconds c.self.inside.clock c.args.number c.args.peer)) kept))

pub returns-else-slot-len : goal.returns-else-slot-len
returns-else-slot-len g c =
    let size = relays_size c.self.inside.slots.entries c.self.inside.kept.items in
    let past : get_or (relays_in c.self.inside.slots.entries c.self.inside.kept.items) c.args.slot None ≡ None =
    get_or_past (relays_in c.self.inside.slots.entries c.self.inside.kept.items) c.args.slot None (omega (arith, size, c.if-slot-len.false, c.len.ensures, c.self.inside.kept.ok, c.self.invariant.table.size)) in
    rw (← c.self.view_is) (rw past refl)
