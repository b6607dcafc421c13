use Rattle.std.proofs.Common.{find, None, Some, get_or, refl, ◌∙◌}
use Rattle.std.specs.Option.{option_map}
use Rattle.turn_machine.specs.Relays.{is_channel}
use Rattle.turn_relays.specs.Relayed.{relays_in}
use Rattle.turn_relays.proofs.SlotsLemmas.{asked_of, kept_is}
use Rattle.turn_relays.proofs.relays.Relays.peer_on.Goals as goal

pub returns-in_err-kept_at : goal.returns-in_err-kept_at
returns-in_err-kept_at g c =
    rw (← c.self.view_is) (c.from_residual.ensures ∙ asked_of (λ r. option_map (λ c'. c'.peer) (find (is_channel c.self.inside.clock c.args.number) r.channels)) (λ x. option_map (λ c'. c'.peer) (find (is_channel c.self.inside.clock c.args.number) x.channels)) None (get_or (relays_in c.self.inside.slots.entries c.self.inside.kept.items) c.args.slot None) (λ r at. refl) None (kept_is c.self.inside.slots.entries c.self.inside.kept.items c.self.invariant.table.beside c.args.slot c.deref.result.now None c.in_err-kept_at.ensures c.deref.ensures.value))

pub returns : goal.returns
returns g c =
    rw (← c.self.view_is) (c.peer_on.ensures ∙ asked_of (λ r. option_map (λ c'. c'.peer) (find (is_channel c.self.inside.clock c.args.number) r.channels)) (λ x. option_map (λ c'. c'.peer) (find (is_channel c.self.inside.clock c.args.number) x.channels)) None (get_or (relays_in c.self.inside.slots.entries c.self.inside.kept.items) c.args.slot None) (λ r at. refl) (Some c.in_ok-kept_at.field-0.now) (kept_is c.self.inside.slots.entries c.self.inside.kept.items c.self.invariant.table.beside c.args.slot c.deref.result.now (Some c.in_ok-kept_at.field-0.now) c.in_ok-kept_at.ensures c.deref.ensures.value))
