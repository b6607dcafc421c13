use Rattle.std.proofs.Common.{◌≡◌, ℕ, ◌+◌, ◌*◌, false, List, Option, None, Some, get_or, set, inl, inr, refl, sym, ap, subst, ◌∙◌, arith}
use Rattle.std.specs.Prelude.{MatchOption}
use Rattle.std.proofs.lemmas.List.{get_or-set_same}
use Rattle.turn_slots.specs.declared.slots.Entry.{Entry}
use Rattle.turn_slots.specs.Slots.{State}
use Rattle.turn_slots.specs.Numbers.{places}
use Rattle.turn_slots.specs.Users.{user_number}
use Rattle.turn_machine.specs.Relays.{Relay, is_for}
use Rattle.turn_relays.specs.Relayed.{Grants, Table, Each, relay_of, relays_in, opened}
use Rattle.turn_relays.proofs.SlotsLemmas.{relay_missing, relays_size, relays_set, key_free, opened_table, all_taken}
use Rattle.turn_relays.proofs.relays.Relays.open.Goals as goal

pub open-requires-clause-key : goal.open-requires-clause-key
open-requires-clause-key g c =
    key_free c.args.key c.self.inside.slots.entries c.self.inside.kept.items c.self.invariant.table.beside
    (subst (λ (t : Table). Each t (λ r. is_for c.args.key.tuple c.args.key.family r ≡ false)) (sym c.self.view_is) c.requires.key)

pub returns-in_err-slot-clause-none : goal.returns-in_err-slot-clause-none
returns-in_err-slot-clause-none g c =
    let it = c.in_err-slot.ensures.none in
    rw (c.from_residual.ensures, ← c.self.view_is) (
      elim it.0 [
        | inl full ↦ inl (all_taken c.self.inside.slots.entries c.self.inside.kept.items c.self.invariant.table.beside full)
        | inr last ↦ inr last
      ],
      ap (λ (s : State). record {
        clock = c.self.inside.clock;
        next = c.self.inside.next;
        openings = s.round;
        secret = s.secret;
        slots = relays_in s.entries c.self.inside.kept.items;
      }) it.1,
    )

-- the number that the slot's entry has
number_is : (result round slot : ℕ) (e : Entry) (es old : List (Option Entry)) → e.number ≡ round * places + slot → es ≡ set old slot (Some e) → get_or (set old slot (Some e)) slot None ≡ Some e
    → MatchOption (get_or es slot None) ⊥ (λ x. result ≡ x.number) → result ≡ round * places + slot
number_is result round slot e es old number is there found =
    subst (λ (o : Option Entry). MatchOption o ⊥ (λ x. result ≡ x.number)) (ap (λ (xs : List (Option Entry)). get_or xs slot None) is ∙ there) found ∙ number

pub invariant_of-self-2 : goal.invariant_of-self-2
invariant_of-self-2 g c =
    let it = c.in_ok-slot.ensures.some in
    let e : Entry = record { key = c.args.key; user = c.args.user; number = c.self.inside.slots.round * places + c.in_ok-slot.slot; deadline = c.args.expires_at } in
    let number = number_is c.number_in-number.result c.self.inside.slots.round c.in_ok-slot.slot e c.entries.result.now c.self.inside.slots.entries refl (c.entries.ensures ∙ ap (λ (s : State). s.entries) it.state) (get_or-set_same c.self.inside.slots.entries c.in_ok-slot.slot (Some e) None it.within) c.number_in-number.ensures in
    record {
      table = rw number (opened_table c.self.inside.next c.self.inside.slots c.self.inside.kept.items c.self.invariant.table c.in_ok-slot.slot e c.new.result it.within refl c.are_halves.ensures
          (key_free c.args.key c.self.inside.slots.entries c.self.inside.kept.items c.self.invariant.table.beside (subst (λ (t : Table). Each t (λ r. is_for c.args.key.tuple c.args.key.family r ≡ false)) (sym c.self.view_is) c.requires.key)) c.requires.expires_at c.open.new.self it.state);
      early = c.self.invariant.early;
      permissions = c.self.invariant.permissions;
      channels = c.self.invariant.channels;
    }

pub returns-clause-some : goal.returns-clause-some
returns-clause-some g c =
    let it = c.in_ok-slot.ensures.some in
    let e : Entry = record { key = c.args.key; user = c.args.user; number = c.self.inside.slots.round * places + c.in_ok-slot.slot; deadline = c.args.expires_at } in
    let number = number_is c.number_in-number.result c.self.inside.slots.round c.in_ok-slot.slot e c.entries.result.now c.self.inside.slots.entries refl (c.entries.ensures ∙ ap (λ (s : State). s.entries) it.state) (get_or-set_same c.self.inside.slots.entries c.in_ok-slot.slot (Some e) None it.within) c.number_in-number.ensures in
    let relay : relay_of e c.new.result ≡ opened c.args.key (user_number c.args.user) c.args.transaction_id c.args.address c.args.expires_at c.number_in-number.result =
    ap (λ (x : Grants). relay_of e x) c.new.ensures ∙ ap (λ (n : ℕ). opened c.args.key (user_number c.args.user) c.args.transaction_id c.args.address c.args.expires_at n) (sym number) in
    rw (← c.self.view_is) (
      c.in_ok-slot.slot,
      record {
        within = let size = relays_size c.self.inside.slots.entries c.self.inside.kept.items in let low = it.within in omega (arith, size, low);
        free = relay_missing c.self.inside.slots.entries c.self.inside.kept.items c.in_ok-slot.slot it.free;
        number = let fresh = c.self.invariant.table.fresh in omega (arith, fresh, number);
        state = ap (λ (s : State). record {
          clock = c.self.inside.clock;
          next = c.number_in-number.result + 1;
          openings = s.round;
          secret = s.secret;
          slots = relays_in s.entries (set c.self.inside.kept.items c.in_ok-slot.slot (Some c.new.result));
        }) it.state
            ∙ (ap (λ (rs : List (Option Relay)). record {
              clock = c.self.inside.clock;
              next = c.number_in-number.result + 1;
              openings = c.self.inside.slots.round + 1;
              secret = c.self.inside.slots.secret;
              slots = rs;
            }) (relays_set c.self.inside.slots.entries c.self.inside.kept.items c.in_ok-slot.slot (Some e) (Some c.new.result) c.self.invariant.table.size)
            ∙ ap (λ (r : Relay). record {
              clock = c.self.inside.clock;
              next = c.number_in-number.result + 1;
              openings = c.self.inside.slots.round + 1;
              secret = c.self.inside.slots.secret;
              slots = set (relays_in c.self.inside.slots.entries c.self.inside.kept.items) c.in_ok-slot.slot (Some r);
            }) relay);
      },
    )
