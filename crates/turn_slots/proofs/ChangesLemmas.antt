-- A table before and after a relayed address is opened, ends, or gets another deadline.
use Rattle.std.proofs.Common.{◌≡◌, ◌⊎◌, ℕ, ◌+◌, ◌*◌, ◌%◌, ◌<◌, ◌≤◌, true, false, List, Option, None, Some, length, get_or, set, sym, ap, subst, refl, ◌∙◌, inl, inr, arith}
use Rattle.std.specs.Prelude.{nat_lt}
use Rattle.std.specs.Option.{IfSome, IfNone}
use Rattle.std.proofs.lemmas.Bool.{ltb-true}
use Rattle.std.proofs.lemmas.List.{get_or-set_same, get_or-set_other, length-set, length-map, get_or_default, set-get_or}
use Rattle.turn_slots.specs.Tables.{IsTable, IsPlaceOf, key_at}
use Rattle.turn_slots.specs.Users.{UserId}
use Rattle.turn_slots.specs.Slots.{Entry}
use Rattle.turn_slots.specs.Relays.{RelayKey, is_relay}
use Rattle.turn_slots.specs.Numbers.{rounds}
use Rattle.turn_slots.specs.Groups.{Partition, number_in}
use Rattle.turn_slots.specs.Keys.{IsFullOf}
use Rattle.turn_slots.specs.Deadlines.{never}
use Rattle.turn_slots.proofs.RingsLemmas.{same_or_not}
use Rattle.turn_slots.proofs.KeysLemmas.{none_isnt, some_same, is_there}
use Rattle.turn_slots.proofs.TableLemmas.{relay_itself, relay_same, key_free, key_there, key_used, held_low, place_free, opened_held, ended_held, same_held, table_set}

-- what `get` returns
pub found_at : (items xs : List (Option Entry)) (slot : ℕ) (o : Option Entry) (e : Entry) → xs ≡ items → true ≡ nat_lt slot (length xs) → o ≡ get_or xs slot o → o ≡ Some e → get_or items slot None ≡ Some e
found_at items xs slot o e same lt is some =
    ap (λ (z : List (Option Entry)). get_or z slot None) (sym same) ∙ (get_or_default xs slot None o (ltb-true slot (length xs) (sym lt)) ∙ (sym is ∙ some))

false_true : false ≡ true → ⊥
false_true e = cc

module _ (round : ℕ) (entries : List (Option Entry)) (keys : List (Option RelayKey)) (users : List (Option UserId)) (holders : Partition) (deadlines : List ℕ)
    (t : IsTable round entries keys users holders deadlines) where
  keys_size : length keys ≡ length entries
  keys_size = ap length t.keys_are ∙ length-map entries key_at

  -- ---- An opening

  pub full_table : IsFullOf keys → (slot : ℕ) → slot < length entries → (e : Entry) × (get_or entries slot None ≡ Some e)
  full_table full slot lt = let it = full slot (let size = keys_size in omega (arith, size, lt)) in key_used entries keys t.keys_are it.0 slot it.0 it.1

  pub room_for_user : (slot : ℕ) → slot < length keys → get_or keys slot None ≡ None → (key : RelayKey) → IsFullOf users → ⊥
  room_for_user slot lt free key = place_free entries users holders t.users_are slot (let size = keys_size in omega (arith, size, lt)) (key_free entries keys t.keys_are key slot free)

  pub not_there : (slot : ℕ) → slot < length keys → get_or keys slot None ≡ None → (key : RelayKey) (user : UserId) (place : ℕ) (users2 : List (Option UserId)) → IsPlaceOf user users place users2 → get_or holders.group_of slot 0 ≡ place → ⊥
  not_there slot lt free key user place users2 p e =
      let size = keys_size in
      let h = t.users_are in
      let last = h.free slot (omega (arith, size, lt)) (key_free entries keys t.keys_are key slot free) in
      let low = is_there users2 place user p.there in
      let size2 = p.size in
      let users_size = h.users_size in
      absurd (omega (arith, last, low, size2, users_size, e))

  pub opened_table : (slot : ℕ) → slot < length keys → get_or keys slot None ≡ None → (key : RelayKey) (user : UserId) (deadline : ℕ)
      → ((j : ℕ) (b : Entry) → get_or entries j None ≡ Some b → is_relay key b.key ≡ false) → deadline < never
      → (place : ℕ) (users2 : List (Option UserId)) → IsPlaceOf user users place users2
      → (holders2 : Partition) → holders2 ≡ record { groups = holders.groups; group_of = set holders.group_of slot place }
      → (keys2 : List (Option RelayKey)) → keys2 ≡ set keys slot (Some key)
      → (deadlines2 : List ℕ) → deadlines2 ≡ set deadlines slot deadline → (round2 : ℕ) → round2 ≤ rounds
      → IsTable round2 (set entries slot (Some (record { key = key; user = user; number = round * 16_777_216 + slot; deadline = deadline }))) keys2 users2 holders2 deadlines2
  opened_table slot lt free key user deadline absent soon place users2 p holders2 holders_are keys2 keys_are deadlines2 deadlines_are round2 bounded =
      let size = keys_size in
      let slot_in : slot < length entries = omega (arith, size, lt) in
      let few = t.few in
      let empty = key_free entries keys t.keys_are key slot free in
      let it : Entry = record { key = key; user = user; number = round * 16_777_216 + slot; deadline = deadline } in
      table_set round round2 entries keys keys2 users users2 holders holders2 deadlines deadlines2 t bounded slot slot_in (Some (record { key = key; user = user; number = round * 16_777_216 + slot; deadline = deadline })) keys_are deadlines_are
      (opened_held entries users holders t.users_are slot slot_in empty (record { key = key; user = user; number = round * 16_777_216 + slot; deadline = deadline }) place users2 p holders2 holders_are)
      (λ e same.
      let is = some_same (record { key = key; user = user; number = round * 16_777_216 + slot; deadline = deadline }) e same in
      let number : round * 16_777_216 + slot ≡ e.number = ap (λ (z : Entry). z.number) is in
      let due : deadline ≡ e.deadline = ap (λ (z : Entry). z.deadline) is in
      let whose : key ≡ e.key = ap (λ (z : Entry). z.key) is in
      let left : (round * 16_777_216 + slot) % 16_777_216 ≡ slot = omega (arith, slot_in, few) in (
        ap (λ (z : ℕ). z % 16_777_216) (sym number) ∙ left,
        omega (arith, due, soon),
        λ j b there at equal. false_true (sym (absent j b at) ∙ subst (λ (z : RelayKey). is_relay key z ≡ true) (whose ∙ equal) (relay_itself key)),
      ))

  -- ---- An end

  pub key_of : (slot : ℕ) (e : Entry) → get_or entries slot None ≡ Some e → (k : RelayKey) × (get_or keys slot None ≡ Some k)
  key_of slot e at = (e.key, key_there entries keys t.keys_are e.key slot e at)

  pub user_of : (slot : ℕ) (e : Entry) → get_or entries slot None ≡ Some e → (place : ℕ) → place ≡ get_or holders.group_of slot 0 → (u : UserId) × (get_or users place None ≡ Some u)
  user_of slot e at place is = let h = t.users_are in (e.user, ap (λ (z : ℕ). get_or users z None) is ∙ h.held slot e at)

  pub place_low : (slot : ℕ) (e : Entry) → get_or entries slot None ≡ Some e → get_or holders.group_of slot 0 < length entries
  place_low slot e at = held_low entries users holders t.users_are slot e at

  pub ended_table : (slot : ℕ) (e : Entry) → get_or entries slot None ≡ Some e → (place : ℕ) → place ≡ get_or holders.group_of slot 0
      → (holders2 : Partition) → holders2 ≡ record { groups = holders.groups; group_of = set holders.group_of slot (length entries) }
      → (users2 : List (Option UserId)) → ((number_in place holders2.group_of ≡ 0) × (users2 ≡ set users place None)) ⊎ ((number_in place holders2.group_of ≡ 0 → ⊥) × (users2 ≡ users))
      → (keys2 : List (Option RelayKey)) → keys2 ≡ set keys slot None
      → (deadlines2 : List ℕ) → deadlines2 ≡ set deadlines slot never
      → IsTable round (set entries slot None) keys2 users2 holders2 deadlines2
  ended_table slot e at place place_is holders2 holders_are users2 users_are keys2 keys_are deadlines2 deadlines_are =
      let p : ℕ = get_or holders.group_of slot 0 in
      let whose = user_of slot e at place place_is in
      let place_in = is_there users place whose.0 whose.1 in
      let number : number_in place holders2.group_of ≡ number_in (get_or holders.group_of slot 0) (set holders.group_of slot (length entries)) =
      ap (λ (z : Partition). number_in place z.group_of) holders_are ∙ ap (λ (z : ℕ). number_in z (set holders.group_of slot (length entries))) place_is in
      table_set round round entries keys keys2 users users2 holders holders2 deadlines deadlines2 t t.bounded slot (is_there entries slot e at) None keys_are deadlines_are
      (elim users_are [
        | inl gone ↦
            ended_held entries users holders t.users_are slot e at users2 (ap length gone.1 ∙ length-set users place None)
            (λ q differs. ap (λ (z : List (Option UserId)). get_or z q None) gone.1 ∙ get_or-set_other users place q None None (λ f. differs (f ∙ place_is)))
            (λ some. absurd (let none = gone.0 in omega (arith, some, none, number)))
            (λ u is. absurd (none_isnt u (sym (ap (λ (z : List (Option UserId)). get_or z (get_or holders.group_of slot 0) None) gone.1 ∙ (ap (λ (z : ℕ). get_or (set users place None) z None) (sym place_is) ∙ get_or-set_same users place None None place_in)) ∙ is)))
            holders2 holders_are
        | inr kept ↦
            ended_held entries users holders t.users_are slot e at users2 (ap length kept.1)
            (λ q differs. ap (λ (z : List (Option UserId)). get_or z q None) kept.1)
            (λ some. ap (λ (z : List (Option UserId)). get_or z (get_or holders.group_of slot 0) None) kept.1)
            (λ u is. elim (same_or_not (number_in place holders2.group_of) 0) [ inl none ↦ absurd (kept.0 none) | inr some ↦ omega (arith, some, number) ])
            holders2 holders_are
      ])
      (λ a same. absurd (none_isnt a same))

  -- ---- Another deadline

  pub due_table : (slot : ℕ) (e : Entry) → get_or entries slot None ≡ Some e → (deadline : ℕ) → deadline < never
      → (deadlines2 : List ℕ) → deadlines2 ≡ set deadlines slot deadline
      → IsTable round (set entries slot (Some (record { key = e.key; user = e.user; number = e.number; deadline = deadline }))) keys users holders deadlines2
  due_table slot e at deadline soon deadlines2 deadlines_are =
      let lt = is_there entries slot e at in
      let there = key_there entries keys t.keys_are e.key slot e at in
      table_set round round entries keys keys users users holders holders deadlines deadlines2 t t.bounded slot lt (Some (record { key = e.key; user = e.user; number = e.number; deadline = deadline }))
      (sym (ap (set keys slot) (sym there) ∙ set-get_or keys slot None)) deadlines_are
      (same_held entries users holders t.users_are slot e (record { key = e.key; user = e.user; number = e.number; deadline = deadline }) at refl)
      (λ a same.
      let is = some_same (record { key = e.key; user = e.user; number = e.number; deadline = deadline }) a same in
      let number : e.number ≡ a.number = ap (λ (z : Entry). z.number) is in
      let due : deadline ≡ a.deadline = ap (λ (z : Entry). z.deadline) is in
      let whose : e.key ≡ a.key = ap (λ (z : Entry). z.key) is in (
        ap (λ (z : ℕ). z % 16_777_216) (sym number) ∙ t.numbered slot e at,
        omega (arith, due, soon),
        λ j b there_not at_b equal. there_not (sym (t.one_key slot j e b at at_b (whose ∙ equal))),
      ))

  -- ---- The slot of a key

  pub only_slot : (key : RelayKey) (o : Option ℕ) → IfSome o (λ slot. (e : Entry) × (get_or entries slot None ≡ Some e) × (is_relay key e.key ≡ true))
      → IfNone o ((slot : ℕ) (e : Entry) → get_or entries slot None ≡ Some e → is_relay key e.key ≡ false)
      → (slot : ℕ) (e : Entry) → get_or entries slot None ≡ Some e → is_relay key e.key ≡ true → o ≡ Some slot
  only_slot key None some none slot e at is = absurd (false_true (sym (none slot e at) ∙ is))
  only_slot key (Some place) some none slot e at is =
      ap Some (t.one_key place slot some.0 e some.1 at (sym (relay_same key some.0.key some.2) ∙ relay_same key e.key is))
