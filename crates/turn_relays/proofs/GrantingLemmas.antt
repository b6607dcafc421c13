-- What is granted in the relayed address of a slot.
use Rattle.std.proofs.Common.{◌≡◌, ℕ, List, [], ◌∷◌, length, Option, None, Some, get_or, set, inl, inr, refl, sym, ap, ◌∙◌, eq-eqb, ne_eqb}
use Rattle.std.specs.Prelude.{◌==◌}
use Rattle.std.specs.Option.{option_map}
use Rattle.std.proofs.lemmas.Bool.{cond-true, cond-false}
use Rattle.std.proofs.lemmas.List.{set-get_or}
use Rattle.stun_endpoints.specs.declared.endpoints.Endpoint.{Endpoint}
use Rattle.turn_slots.specs.declared.slots.Entry.{Entry}
use Rattle.turn_slots.specs.Slots.{State}
use Rattle.turn_machine.specs.Relays.{Relay}
use Rattle.turn_machine.specs.Rows.{with_permission_for, with_permissions, with_channel, permissions_after}
use Rattle.turn_machine.specs.Steps.{binding}
use Rattle.turn_relays.specs.Relayed.{Grants, Table, Holds, at_slot, changed_slot, relay_of, relays_in, bound}
use Rattle.turn_relays.specs.Tables.{IsTable}
use Rattle.turn_relays.proofs.SlotsLemmas.{relay_from, relays_kept, kept_none, none_or_some, table_of}

-- a change that leaves the relayed address of a slot changes nothing
pub changed_same : (slot : ℕ) (change : Relay → Relay) (t : Table) → ((r : Relay) → Holds t slot r → change r ≡ r) → t ≡ changed_slot slot change t
changed_same slot change t same = elim (none_or_some (at_slot t slot)) [
  | inl none ↦ rw none refl
  | inr it ↦
      let slots : set t.slots slot (Some (change it.0)) ≡ t.slots =
      ap (λ (r : Relay). set t.slots slot (Some r)) (same it.0 it.1) ∙ (ap (set t.slots slot) (sym it.1) ∙ set-get_or t.slots slot None) in
      rw it.1 (sym (ap (λ (rs : List (Option Relay)). record t { slots = rs }) slots))
]

-- what is kept beside a slot is changed: so is its relayed address
pub changed_kept : (clock next : ℕ) (s : State) (ks : List (Option Grants)) → IsTable next s ks → (slot : ℕ) (f : Grants → Grants) (change : Relay → Relay)
    → ((e : Entry) (g : Grants) → get_or s.entries slot None ≡ Some e → change (relay_of e g) ≡ relay_of e (f g))
    → (k : Option Grants) → k ≡ option_map f (get_or ks slot None)
    → table_of clock next s (set ks slot k) ≡ changed_slot slot change (table_of clock next s ks)
changed_kept clock next s ks t slot f change same k is = elim (none_or_some (get_or (relays_in s.entries ks) slot None)) [
  | inl none ↦
      rw none (ap (table_of clock next s) (kept_none s.entries ks t.beside slot f k is none))
  | inr it ↦
      let from = relay_from s.entries ks slot it.0 it.1 in
      let one : k ≡ Some (f from.g) = is ∙ ap (option_map f) from.kept in
      let relay : relay_of from.e (f from.g) ≡ change it.0 = sym (same from.e from.g from.entry) ∙ ap change from.relay in
      rw it.1 (ap (λ (rs : List (Option Relay)). record { clock = clock; next = next; openings = s.round; secret = s.secret; slots = rs })
      (ap (λ (z : Option Grants). relays_in s.entries (set ks slot z)) one
      ∙ (relays_kept s.entries ks slot from.e (f from.g) t.size from.entry
      ∙ ap (λ (r : Relay). set (relays_in s.entries ks) slot (Some r)) relay)))
]

-- ---- A channel with its permission

-- the permission takes as much room as one of 300 seconds
pub room_for_peer : (lifetime now : ℕ) (peer : Endpoint) (r : Relay) → peer.ip.family ≡ r.family
    → length (permissions_after now (peer ∷ []) r) ≡ length (with_permission_for lifetime now peer.ip r.permissions)
room_for_peer lifetime now peer r same =
    ap (λ (peers : List Endpoint). length (with_permissions now peers r.permissions)) (cond-true (peer.ip.family == r.family) (peer ∷ []) [] (eq-eqb peer.ip.family r.family same))

pub binding_is : (lifetime now number : ℕ) (peer : Endpoint) (e : Entry) (g : Grants) → peer.ip.family ≡ e.key.family
    → binding lifetime now number peer (relay_of e g) ≡ relay_of e (bound lifetime now number peer g)
binding_is lifetime now number peer e g same =
    cond-true (peer.ip.family == e.key.family) (relay_of e (bound lifetime now number peer g)) (relay_of e g) (eq-eqb peer.ip.family e.key.family same)

-- a peer of another family gets nothing
pub binding_not : (lifetime now number : ℕ) (peer : Endpoint) (r : Relay) → (peer.ip.family ≡ r.family → ⊥) → binding lifetime now number peer r ≡ r
binding_not lifetime now number peer r other =
    cond-false (peer.ip.family == r.family) (record r { permissions = with_permission_for lifetime now peer.ip r.permissions; channels = with_channel now number peer r.channels }) r
    (ne_eqb peer.ip.family r.family other)
