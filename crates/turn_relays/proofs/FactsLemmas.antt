-- What is so of the relayed addresses of all tables.
use Rattle.std.proofs.Common.{◌≡◌, ℕ, ◌<◌, ◌≤◌, true, List, length, Option, None, Some, get_or, sym, ap, subst, ◌∙◌}
use Rattle.std.specs.Prelude.{◌%◌}
use Rattle.std.specs.Option.{IfSome, IfNone}
use Rattle.turn_slots.specs.declared.slots.Entry.{Entry}
use Rattle.turn_slots.specs.Slots.{State}
use Rattle.turn_slots.specs.Deadlines.{never}
use Rattle.turn_slots.specs.Numbers.{places}
use Rattle.turn_slots.proofs.TableLemmas.{relay_same}
use Rattle.turn_machine.specs.Relays.{Relay, is_for}
use Rattle.turn_relays.specs.Relayed.{Grants, relay_of, relays_in}
use Rattle.turn_relays.specs.Facts.{IsFirstEnd}
use Rattle.turn_relays.specs.Tables.{IsTable}
use Rattle.turn_relays.proofs.SlotsLemmas.{relay_there, relay_from, for_key, if_some, if_none, none_isnt, is_there, table_of}

module _ (next : ℕ) (s : State) (ks : List (Option Grants)) (t : IsTable next s ks) where
  pub numbers_distinct : (slot other : ℕ) (r q : Relay) → get_or (relays_in s.entries ks) slot None ≡ Some r → get_or (relays_in s.entries ks) other None ≡ Some q
      → r.number ≡ q.number → slot ≡ other
  numbers_distinct slot other r q at too same =
      let one = relay_from s.entries ks slot r at in
      let two = relay_from s.entries ks other q too in
      let number : one.e.number ≡ two.e.number = ap (λ (x : Relay). x.number) one.relay ∙ (same ∙ sym (ap (λ (x : Relay). x.number) two.relay)) in
      sym (t.numbered slot one.e one.entry) ∙ (ap (λ (n : ℕ). n % places) number ∙ t.numbered other two.e two.entry)

  pub numbers_slots : (slot : ℕ) (r : Relay) → get_or (relays_in s.entries ks) slot None ≡ Some r → r.number % places ≡ slot
  numbers_slots slot r at =
      let it = relay_from s.entries ks slot r at in
      subst (λ (x : Relay). x.number % places ≡ slot) it.relay (t.numbered slot it.e it.entry)

  pub keys_distinct : (slot other : ℕ) (r q : Relay) → get_or (relays_in s.entries ks) slot None ≡ Some r → get_or (relays_in s.entries ks) other None ≡ Some q
      → is_for r.tuple r.family q ≡ true → slot ≡ other
  keys_distinct slot other r q at too same =
      let one = relay_from s.entries ks slot r at in
      let two = relay_from s.entries ks other q too in
      let is : is_for one.e.key.tuple one.e.key.family (relay_of two.e two.g) ≡ true =
      subst (λ (x : Relay). is_for x.tuple x.family (relay_of two.e two.g) ≡ true) (sym one.relay) (subst (λ (x : Relay). is_for r.tuple r.family x ≡ true) (sym two.relay) same) in
      t.one_key slot other one.e two.e one.entry two.entry (relay_same one.e.key two.e.key (sym (for_key one.e.key two.e two.g) ∙ is))

  pub numbers_below : (slot : ℕ) (r : Relay) → get_or (relays_in s.entries ks) slot None ≡ Some r → r.number < next
  numbers_below slot r at =
      let it = relay_from s.entries ks slot r at in
      subst (λ (x : Relay). x.number < next) it.relay (t.below slot it.e it.entry)

  pub ends_possible : (slot : ℕ) (r : Relay) → get_or (relays_in s.entries ks) slot None ≡ Some r → r.expires_at < never
  ends_possible slot r at =
      let it = relay_from s.entries ks slot r at in
      subst (λ (x : Relay). x.expires_at < never) it.relay (t.soon slot it.e it.entry)

  -- ---- Which ends first

  pub first_end : (clock : ℕ) (found : Option ℕ)
      → IfSome found (λ due. ((slot : ℕ) × (e : Entry) × (get_or s.entries slot None ≡ Some e) × (e.deadline ≡ due)) × ((slot : ℕ) (e : Entry) → get_or s.entries slot None ≡ Some e → due ≤ e.deadline))
      → IfSome found (λ due. IsFirstEnd due (table_of clock next s ks))
  first_end clock found is =
      if_some found (λ due. ((slot : ℕ) × (e : Entry) × (get_or s.entries slot None ≡ Some e) × (e.deadline ≡ due)) × ((slot : ℕ) (e : Entry) → get_or s.entries slot None ≡ Some e → due ≤ e.deadline))
      (λ due. IsFirstEnd due (table_of clock next s ks))
      (λ due it.
      let there = relay_there s.entries ks t.beside it.0.0 it.0.1 it.0.2 in
      record {
        some = (it.0.0, relay_of it.0.1 there.0, there.2, it.0.3);
        least = λ slot r at.
            let from = relay_from s.entries ks slot r at in
            subst (λ (x : Relay). due ≤ x.expires_at) from.relay (it.1 slot from.e from.entry);
      }) is

  pub none_ends : (found : Option ℕ) → IfNone found ((slot : ℕ) → slot < length s.entries → get_or s.entries slot None ≡ None)
      → IfNone found ((slot : ℕ) (r : Relay) → get_or (relays_in s.entries ks) slot None ≡ Some r → ⊥)
  none_ends found is =
      if_none found ((slot : ℕ) → slot < length s.entries → get_or s.entries slot None ≡ None)
      ((slot : ℕ) (r : Relay) → get_or (relays_in s.entries ks) slot None ≡ Some r → ⊥)
      (λ free slot r at.
      let from = relay_from s.entries ks slot r at in
      none_isnt from.e (sym (free slot (is_there s.entries slot from.e from.entry)) ∙ from.entry)) is
