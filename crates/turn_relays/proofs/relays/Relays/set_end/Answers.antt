use Rattle.std.proofs.Common.{◌≡◌, ℕ, Bool, true, false, List, Option, None, Some, get_or, set, inl, inr, sym, ap, subst, ◌∙◌}
use Rattle.std.specs.Prelude.{MatchOption}
use Rattle.turn_slots.specs.declared.slots.Entry.{Entry}
use Rattle.turn_slots.specs.Slots.{State}
use Rattle.turn_machine.specs.Relays.{Relay}
use Rattle.turn_relays.specs.Relayed.{relays_in}
use Rattle.turn_relays.specs.Tables.{IsTable}
use Rattle.turn_relays.proofs.SlotsLemmas.{relay_there, relay_missing, relays_changed, changed_table, none_or_some, is_there}
use Rattle.turn_relays.proofs.relays.Relays.set_end.Goals as goal

-- what `set_deadline` does
abbrev Sets : (result : Bool) (slot expires_at : ℕ) (old new : State) → Option Entry → Type 0
Sets result slot expires_at old new o =
    MatchOption o ((result ≡ false) × (new ≡ old))
    (λ e. (result ≡ true) × (new ≡ record old { entries = set old.entries slot (Some (record e { deadline = expires_at })) }))

pub invariant_of-self : goal.invariant_of-self
invariant_of-self g c =
    record {
      table = (elim (none_or_some (get_or c.self.inside.slots.entries c.args.slot None)) [
        | inl free ↦
            let same = (subst (Sets c.set_deadline.result c.args.slot c.args.expires_at c.self.inside.slots c.set_deadline.new.self) free c.set_deadline.ensures).1 in
            subst (λ (z : State). IsTable c.self.inside.next z c.self.inside.kept.items) (sym same) c.self.invariant.table
        | inr it ↦
            let new = (subst (Sets c.set_deadline.result c.args.slot c.args.expires_at c.self.inside.slots c.set_deadline.new.self) it.1 c.set_deadline.ensures).1 in
            changed_table c.self.inside.next c.self.inside.slots c.self.inside.kept.items c.self.invariant.table c.args.slot c.args.expires_at it.0 it.1 c.requires c.set_deadline.new.self new
      ]);
      early = c.self.invariant.early;
      permissions = c.self.invariant.permissions;
      channels = c.self.invariant.channels;
    }

pub returns : goal.returns
returns g c =
    elim (none_or_some (get_or c.self.inside.slots.entries c.args.slot None)) [
      | inl free ↦
          let same = (subst (Sets c.set_deadline.result c.args.slot c.args.expires_at c.self.inside.slots c.set_deadline.new.self) free c.set_deadline.ensures).1 in
          rw (← c.self.view_is) (rw (relay_missing c.self.inside.slots.entries c.self.inside.kept.items c.args.slot free)
          (ap (λ (s : State). record {
            clock = c.self.inside.clock;
            next = c.self.inside.next;
            openings = s.round;
            secret = s.secret;
            slots = relays_in s.entries c.self.inside.kept.items;
          }) same))
      | inr it ↦
          let new = (subst (Sets c.set_deadline.result c.args.slot c.args.expires_at c.self.inside.slots c.set_deadline.new.self) it.1 c.set_deadline.ensures).1 in
          let there = relay_there c.self.inside.slots.entries c.self.inside.kept.items c.self.invariant.table.beside c.args.slot it.0 it.1 in
          rw (← c.self.view_is) (rw there.2
          (ap (λ (s : State). record {
            clock = c.self.inside.clock;
            next = c.self.inside.next;
            openings = s.round;
            secret = s.secret;
            slots = relays_in s.entries c.self.inside.kept.items;
          }) new ∙ ap (λ (rs : List (Option Relay)). record {
            clock = c.self.inside.clock;
            next = c.self.inside.next;
            openings = c.self.inside.slots.round;
            secret = c.self.inside.slots.secret;
            slots = rs;
          }) (relays_changed c.self.inside.slots.entries c.self.inside.kept.items c.args.slot (record it.0 { deadline = c.args.expires_at }) there.0
          (is_there c.self.inside.slots.entries c.args.slot it.0 it.1) there.1)))
    ]
