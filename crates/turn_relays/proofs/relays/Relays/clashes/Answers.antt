use Rattle.std.proofs.Common.{false, None, Some, get_or, refl, ◌∙◌}
use Rattle.std.specs.List.{list_any}
use Rattle.turn_machine.specs.Rows.{clashes}
use Rattle.turn_relays.specs.Relayed.{relays_in}
use Rattle.turn_relays.proofs.SlotsLemmas.{asked_of, kept_is}
use Rattle.turn_relays.proofs.relays.Relays.clashes.Goals as goal

pub returns-in-Some : goal.returns-in-Some
returns-in-Some g c =
    rw (← c.self.view_is) (c.clashes.ensures ∙ asked_of (λ r. list_any (clashes c.self.inside.clock c.args.number c.args.peer) r.channels) (λ x. list_any (clashes c.self.inside.clock c.args.number c.args.peer) x.channels) false (get_or (relays_in c.self.inside.slots.entries c.self.inside.kept.items) c.args.slot None) (λ r at. refl) (Some c.in-Some.kept.now) (kept_is c.self.inside.slots.entries c.self.inside.kept.items c.self.invariant.table.beside c.args.slot c.deref.result.now (Some c.in-Some.kept.now) c.in-Some.ensures c.deref.ensures.value))

pub returns-in-None : goal.returns-in-None
returns-in-None g c =
    rw (← c.self.view_is) (asked_of (λ r. list_any (clashes c.self.inside.clock c.args.number c.args.peer) r.channels) (λ x. list_any (clashes c.self.inside.clock c.args.number c.args.peer) x.channels) false (get_or (relays_in c.self.inside.slots.entries c.self.inside.kept.items) c.args.slot None) (λ r at. refl) None (kept_is c.self.inside.slots.entries c.self.inside.kept.items c.self.invariant.table.beside c.args.slot c.deref.result.now None c.in-None.ensures c.deref.ensures.value))
