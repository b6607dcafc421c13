-- What a meter counts.
use Rattle.std.proofs.Common.{◌≡◌, ◌≢◌, ℕ, ◌<◌, ◌≤◌, zero, suc, Bool, true, false, cond, List, [], ◌∷◌, ◌++◌, length, get_or, set, replicate, Option, None, Some, refl, sym, ap, ◌∙◌, subst, eq-eqb, eqb-true, ne_eqb, ltb-true, ltb-false, arith, inl, inr}
use Rattle.std.specs.Prelude.{◌==◌, ◌⊎◌, nat_lt}
use Rattle.std.specs.List.{AllByRecursion}
use Rattle.std.proofs.lemmas.Bool.{cond_both, cases_Bool, cond-true, cond-false, eqb-false}
use Rattle.std.proofs.lemmas.List.{get_or-set_same, get_or-set_other, get_or_past, length-replicate, length-set}
use Rattle.turn_allocations.specs.declared.metering.Traffic.{Traffic}
use Rattle.turn_allocations.specs.declared.metering.Metered.{Metered}
use Rattle.turn_allocations.specs.Metering.{no_traffic, unused, slot_of, traffic_in, traffic_of, counted, Packet, with_packet, meter_after, total, HavePlaces, MetersCount}
use Rattle.turn_machine.specs.Relays.{Relay}
use Rattle.turn_relays.specs.Facts.{NumbersHaveSlots}
use Rattle.turn_relays.specs.Relayed.{Table, state_of, number_of}
use Rattle.turn_relays.proofs.NewestLemmas.{each_slot, newest_each}
use Rattle.turn_relays.proofs.SlotsLemmas.{is_there}

-- ---- One packet

own : (number : ℕ) (traffic : Traffic) → traffic_in (record { number = number; traffic = traffic }) number ≡ traffic
own number traffic = cond-true (number == number) traffic no_traffic (eq-eqb number number refl)

none_in : (place : Metered) (number : ℕ) → place.number ≢ number → traffic_in place number ≡ no_traffic
none_in place number other = cond-false (place.number == number) place.traffic no_traffic (ne_eqb place.number number other)

unused_in : (number : ℕ) → traffic_in unused number ≡ no_traffic
unused_in number = both (0 == number)
  where
    both : (b : Bool) → cond b no_traffic no_traffic ≡ no_traffic
    both true = refl
    both false = refl

adds : (meter : List Metered) (number : ℕ) (packet : Traffic → Traffic) → slot_of number < length meter → traffic_of number (counted number packet meter) ≡ packet (traffic_of number meter)
adds meter number packet low =
    ap (λ (p : Metered). traffic_in p number) (get_or-set_same meter (slot_of number) (record { number = number; traffic = packet (traffic_of number meter) }) unused low)
    ∙ own number (packet (traffic_of number meter))

leaves : (meter : List Metered) (number other : ℕ) (packet : Traffic → Traffic) → slot_of other ≢ slot_of number → traffic_of other (counted number packet meter) ≡ traffic_of other meter
leaves meter number other packet apart =
    ap (λ (p : Metered). traffic_in p other) (get_or-set_other meter (slot_of number) (slot_of other) (record { number = number; traffic = packet (traffic_of number meter) }) unused apart)

clears : (meter : List Metered) (number other : ℕ) (packet : Traffic → Traffic) → slot_of number < length meter → slot_of other ≡ slot_of number → other ≢ number → traffic_of other (counted number packet meter) ≡ no_traffic
clears meter number other packet low same differ =
    let new : Metered = record { number = number; traffic = packet (traffic_of number meter) } in
    ap (λ (slot : ℕ). traffic_in (get_or (set meter (slot_of number) new) slot unused) other) same
    ∙ (ap (λ (p : Metered). traffic_in p other) (get_or-set_same meter (slot_of number) new unused low)
    ∙ none_in new other (λ is. differ (sym is)))

set_past : {X : Type 0} (xs : List X) (i : ℕ) (x : X) → length xs ≤ i → set xs i x ≡ xs
set_past [] i x past = refl
set_past (y ∷ xs) zero x past = absurd (omega (arith, past))
set_past (y ∷ xs) (suc i) x past = ap (λ (zs : List _). y ∷ zs) (set_past xs i x (omega (arith, past)))

unmetered : (meter : List Metered) (number : ℕ) → length meter ≤ slot_of number → traffic_of number meter ≡ no_traffic
unmetered meter number past =
    ap (λ (p : Metered). traffic_in p number) (get_or_past meter (slot_of number) unused past) ∙ unused_in number

-- ---- All packets

after_size : (capacity : ℕ) (packets : List Packet) → length (meter_after capacity packets) ≡ capacity
after_size capacity [] = length-replicate capacity unused
after_size capacity (p ∷ earlier) =
    length-set (meter_after capacity earlier) (slot_of p.number) (record { number = p.number; traffic = with_packet p (traffic_of p.number (meter_after capacity earlier)) })
    ∙ after_size capacity earlier

-- a packet of another number leaves a number with no traffic
stays_none : (meter : List Metered) (number other : ℕ) (packet : Traffic → Traffic) → other ≢ number → traffic_of number meter ≡ no_traffic → traffic_of number (counted other packet meter) ≡ no_traffic
stays_none meter number other packet differ none =
    elim (cases_Bool (slot_of number == slot_of other)) [
      | inl is ↦ in_slot (eqb-true (slot_of number) (slot_of other) is) (cases_Bool (nat_lt (slot_of other) (length meter)))
      | inr isnt ↦ leaves meter other number packet (eqb-false (slot_of number) (slot_of other) isnt) ∙ none
    ]
  where
    in_slot : slot_of number ≡ slot_of other → (nat_lt (slot_of other) (length meter) ≡ true) ⊎ (nat_lt (slot_of other) (length meter) ≡ false) → traffic_of number (counted other packet meter) ≡ no_traffic
    in_slot same (inl less) = clears meter other number packet (ltb-true (slot_of other) (length meter) less) same (λ is. differ (sym is))
    in_slot same (inr least) =
        ap (traffic_of number) (set_past meter (slot_of other) (record { number = other; traffic = packet (traffic_of other meter) }) (ltb-false (slot_of other) (length meter) least)) ∙ none

unused_at : (capacity i : ℕ) → get_or (replicate capacity unused) i unused ≡ unused
unused_at zero i = refl
unused_at (suc capacity) zero = refl
unused_at (suc capacity) (suc i) = unused_at capacity i

before_is : (capacity number : ℕ) (before : List Packet) → AllByRecursion (λ p. p.number ≢ number) before → traffic_of number (meter_after capacity before) ≡ no_traffic
before_is capacity number [] each =
    ap (λ (p : Metered). traffic_in p number) (unused_at capacity (slot_of number)) ∙ unused_in number
before_is capacity number (p ∷ before) each =
    stays_none (meter_after capacity before) number p.number (with_packet p) each.0 (before_is capacity number before each.1)

exact : (capacity number : ℕ) (since before : List Packet) → slot_of number < capacity
    → AllByRecursion (λ p. slot_of p.number ≡ slot_of number → p.number ≡ number) since
    → AllByRecursion (λ p. p.number ≢ number) before
    → traffic_of number (meter_after capacity (since ++ before)) ≡ total number since
exact capacity number [] before low alone new = before_is capacity number before new
exact capacity number (p ∷ since) before low alone new =
    let rest : List Metered = meter_after capacity (since ++ before) in
    let more = exact capacity number since before low alone.1 new in
    let within = subst (λ (n : ℕ). slot_of number < n) (sym (after_size capacity (since ++ before))) low in
    cond_both (p.number == number) (with_packet p (total number since)) (total number since) (λ (t : Traffic). traffic_of number (counted p.number (with_packet p) rest) ≡ t)
    (λ is. subst (λ (n : ℕ). traffic_of number (counted n (with_packet p) rest) ≡ with_packet p (total number since)) (sym (eqb-true p.number number is))
    (adds rest number (with_packet p) within ∙ ap (with_packet p) more))
    (λ isnt. leaves rest p.number number (with_packet p) (λ same. eqb-false p.number number isnt (alone.0 (sym same))) ∙ more)

pub meters : MetersCount
meters = record {
  adds = adds;
  leaves = leaves;
  clears = clears;
  ignores = λ meter number packet past. (set_past meter (slot_of number) (record { number = number; traffic = packet (traffic_of number meter) }) past, unmetered meter number past);
  exact = exact;
}

-- ---- Relayed addresses

have_places : (t : Table) → NumbersHaveSlots t → HavePlaces (length t.slots) (state_of t).relays
have_places t slots = record {
  within = newest_each number_of (λ r. slot_of r.number < length t.slots) t.slots
      (each_slot (λ r. slot_of r.number < length t.slots) t.slots (λ i r at. subst (λ (n : ℕ). n < length t.slots) (sym (slots i r at)) (is_there t.slots i r at)));
  apart = newest_each number_of (λ r. AllByRecursion (λ other. slot_of other.number ≡ slot_of r.number → other.number ≡ r.number) (state_of t).relays) t.slots
      (each_slot (λ r. AllByRecursion (λ other. slot_of other.number ≡ slot_of r.number → other.number ≡ r.number) (state_of t).relays) t.slots
      (λ i r at. newest_each number_of (λ other. slot_of other.number ≡ slot_of r.number → other.number ≡ r.number) t.slots
      (each_slot (λ other. slot_of other.number ≡ slot_of r.number → other.number ≡ r.number) t.slots
      (λ j other there same. one_there i j r other at there (sym (slots j other there) ∙ (same ∙ slots i r at))))));
}
  where
    number_in : Option Relay → ℕ
    number_in None = 0
    number_in (Some r) = r.number

    one_there : (i j : ℕ) (r other : Relay) → get_or t.slots i None ≡ Some r → get_or t.slots j None ≡ Some other → j ≡ i → other.number ≡ r.number
    one_there i j r other at there same =
        ap number_in (sym there ∙ (ap (λ (k : ℕ). get_or t.slots k None) same ∙ at))

pub serving_places : (t : Table) (capacity : ℕ) → length t.slots ≡ capacity → NumbersHaveSlots t → HavePlaces capacity (state_of t).relays
serving_places t capacity size slots = subst (λ (n : ℕ). HavePlaces n (state_of t).relays) size (have_places t slots)
