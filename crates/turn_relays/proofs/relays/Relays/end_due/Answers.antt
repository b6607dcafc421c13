use Rattle.std.proofs.Common.{◌<◌, List, Option, None, set, refl, ap, subst, ◌∙◌}
use Rattle.turn_slots.specs.Slots.{State}
use Rattle.turn_machine.specs.Relays.{Relay}
use Rattle.turn_relays.specs.Relayed.{relay_of, relays_in}
use Rattle.turn_relays.proofs.SlotsLemmas.{relay_there, relay_from, relays_set, ended_table}
use Rattle.turn_relays.proofs.relays.Relays.end_due.Goals as goal

pub returns-in_err-slot-clause-none : goal.returns-in_err-slot-clause-none
returns-in_err-slot-clause-none g c =
    let it = c.in_err-slot.ensures.none in
    rw (c.from_residual.ensures, ← c.self.view_is) (
      λ slot r at.
          let from = relay_from c.self.inside.slots.entries c.self.inside.kept.items slot r at in
          subst (λ (x : Relay). c.self.inside.clock < x.expires_at) from.relay (it.0 slot from.e from.entry),
      ap (λ (s : State). record {
        clock = c.self.inside.clock;
        next = c.self.inside.next;
        openings = s.round;
        secret = s.secret;
        slots = relays_in s.entries c.self.inside.kept.items;
      }) it.1,
    )

pub invariant_of-self-2 : goal.invariant_of-self-2
invariant_of-self-2 g c = record { table = ended_table c.self.inside.next c.self.inside.slots c.self.inside.kept.items c.self.invariant.table c.in_ok-slot.slot c.end_due.new.self c.in_ok-slot.ensures.some.2; early = c.self.invariant.early; permissions = c.self.invariant.permissions; channels = c.self.invariant.channels }

pub returns-clause-some : goal.returns-clause-some
returns-clause-some g c =
    let it = c.in_ok-slot.ensures.some in
    let there = relay_there c.self.inside.slots.entries c.self.inside.kept.items c.self.invariant.table.beside c.in_ok-slot.slot c.in_ok-slot.entry it.0 in
    rw (← c.self.view_is) (
      c.in_ok-slot.slot,
      relay_of c.in_ok-slot.entry there.0,
      there.2,
      refl,
      it.1.0,
      ap (λ (s : State). record {
        clock = c.self.inside.clock;
        next = c.self.inside.next;
        openings = s.round;
        secret = s.secret;
        slots = relays_in s.entries (set c.self.inside.kept.items c.in_ok-slot.slot None);
      }) it.2 ∙ ap (λ (rs : List (Option Relay)). record {
        clock = c.self.inside.clock;
        next = c.self.inside.next;
        openings = c.self.inside.slots.round;
        secret = c.self.inside.slots.secret;
        slots = rs;
      }) (relays_set c.self.inside.slots.entries c.self.inside.kept.items c.in_ok-slot.slot None None c.self.invariant.table.size),
    )
