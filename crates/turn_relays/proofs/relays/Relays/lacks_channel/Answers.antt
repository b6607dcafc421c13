use Rattle.std.proofs.Common.{◌≡◌, false, length, None, Some, get_or, refl, subst, ◌∙◌}
use Rattle.std.specs.Prelude.{nat_lt}
use Rattle.std.specs.Option.{option_map_or}
use Rattle.turn_machine.specs.Rows.{with_channel}
use Rattle.turn_relays.specs.Relayed.{Table, relays_in}
use Rattle.turn_relays.proofs.SlotsLemmas.{asked_of, kept_is}
use Rattle.turn_relays.proofs.relays.Relays.lacks_channel.Goals as goal

pub returns-in-Some : goal.returns-in-Some
returns-in-Some g c =
    subst (λ (t : Table). c.lacks_channel.result ≡ option_map_or (λ r. nat_lt g.row.C (length (with_channel t.clock c.args.number c.args.peer r.channels))) (get_or t.slots c.args.slot None) false) c.self.view_is (c.lacks_channel.ensures ∙ asked_of (λ r. nat_lt g.row.C (length (with_channel c.self.inside.clock c.args.number c.args.peer r.channels))) (λ x. nat_lt g.row.C (length (with_channel c.self.inside.clock c.args.number c.args.peer x.channels))) false (get_or (relays_in c.self.inside.slots.entries c.self.inside.kept.items) c.args.slot None) (λ r at. refl) (Some c.in-Some.kept.now) (kept_is c.self.inside.slots.entries c.self.inside.kept.items c.self.invariant.table.beside c.args.slot c.deref.result.now (Some c.in-Some.kept.now) c.in-Some.ensures c.deref.ensures.value))

pub returns-in-None : goal.returns-in-None
returns-in-None g c =
    subst (λ (t : Table). false ≡ option_map_or (λ r. nat_lt g.row.C (length (with_channel t.clock c.args.number c.args.peer r.channels))) (get_or t.slots c.args.slot None) false) c.self.view_is (asked_of (λ r. nat_lt g.row.C (length (with_channel c.self.inside.clock c.args.number c.args.peer r.channels))) (λ x. nat_lt g.row.C (length (with_channel c.self.inside.clock c.args.number c.args.peer x.channels))) false (get_or (relays_in c.self.inside.slots.entries c.self.inside.kept.items) c.args.slot None) (λ r at. refl) None (kept_is c.self.inside.slots.entries c.self.inside.kept.items c.self.invariant.table.beside c.args.slot c.deref.result.now None c.in-None.ensures c.deref.ensures.value))
