-- Relayed addresses end one by one, each in its slot.
use Rattle.std.proofs.Common.{◌≡◌, ℕ, ◌+◌, ◌<◌, ◌≤◌, suc, Bool, true, false, not, cond, List, [], ◌∷◌, ◌++◌, filter, length, Option, None, Some, get_or, set, refl, sym, ap, ◌∙◌, subst, arith, eqb-true, eq-eqb, max}
use Rattle.std.specs.List.{AllByRecursion}
use Rattle.std.specs.Prelude.{◌||◌, ◌==◌, nat_le, MatchOption}
use Rattle.std.proofs.lemmas.Bool.{cond_both, and_parts, and_from, le-leb, leb-true}
use Rattle.std.proofs.lemmas.List.{length-set}
use Rattle.turn_machine.specs.Relays.{seconds, Relay, State, is_at, is_live}
use Rattle.turn_machine.specs.Lists.{times}
use Rattle.turn_machine.specs.Times.{numbers, at, over_at}
use Rattle.turn_machine.specs.Events.{nothing}
use Rattle.turn_machine.specs.Steps.{closing}
use Rattle.turn_relays.specs.Relayed.{Table, state_of, with_slot, Holds}
use Rattle.turn_relays.specs.Following.{listed, EachOf, ListFollowsSlots}
use Rattle.turn_relays.specs.Listing.{ListHasSlots}
use Rattle.turn_relays.specs.Facts.{NumbersAreDistinct}
use Rattle.turn_allocations.specs.Clients.{lifetime_max, is_sound, AreSound, Becomes}
use Rattle.turn_allocations.specs.Ending.{Numbers}
use Rattle.turn_allocations.specs.Serving.{Appends, IsDone}
use Rattle.turn_allocations.proofs.EndingLemmas.{times_append, Among, left_of, ends_some, none_ends, EndsOne, ends_one}

-- ---- One

some_same : {X : Type 0} (x y : X) → Some x ≡ Some y → x ≡ y
some_same x y is = cc

lengths : {X : Type 0} (p : X → Bool) (xs : List X) → length xs ≡ length (filter p xs) + length (filter (λ x. not (p x)) xs)
lengths p [] = refl
lengths p (x ∷ xs) = by_test (p x) (lengths p xs)
  where
    by_test : (b : Bool) → length xs ≡ length (filter p xs) + length (filter (λ y. not (p y)) xs) → suc (length xs) ≡ length (cond b (x ∷ filter p xs) (filter p xs)) + length (cond (not b) (x ∷ filter (λ y. not (p y)) xs) (filter (λ y. not (p y)) xs))
    by_test true more = omega (arith, more)
    by_test false more = omega (arith, more)

pub at_itself : (r : Relay) → is_at r.number r ≡ true
at_itself r = eq-eqb r.number r.number refl

each_left : {X : Type 0} (P : X → Type 0) (test : X → Bool) (xs : List X) → AllByRecursion P xs → AllByRecursion P (filter test xs)
each_left P test [] each = tt
each_left P test (x ∷ xs) each =
    let more = each_left P test xs each.1 in
    cond_both (test x) (x ∷ filter test xs) (filter test xs) (AllByRecursion P) (λ _. (each.0, more)) (λ _. more)

module _ (follows : ListFollowsSlots) (has : ListHasSlots) (t : Table) (numbered : NumbersAreDistinct t) (slot : ℕ) (r : Relay) (holds : Holds t slot r) where
  pub alone : (at : ℕ) (other : Relay) → Holds t at other → is_at r.number other ≡ true → at ≡ slot
  alone at other there is = numbered at slot other r there holds (eqb-true other.number r.number is)

  pub by_number : EndsOne t.slots (is_at r.number) slot r
  by_number = ends_one follows has t.slots (is_at r.number) slot r holds (at_itself r) alone

  pub fewer : length (listed t.slots) ≡ suc (length (listed (set t.slots slot None)))
  fewer =
      let all = lengths (is_at r.number) (listed t.slots) in
      let one = ap length (has.one t.slots (is_at r.number) slot r holds (at_itself r) alone) in
      let rest = ap length by_number.left in
      omega (arith, all, one, rest)

  -- there is room for its number, and as much afterwards
  pub has_place : (before : Numbers) → length before.numbers + length (listed t.slots) ≤ before.room → length before.numbers < before.room
  has_place before room = let less = fewer in omega (arith, room, less)

  pub room_kept : (new : Table) → new ≡ with_slot slot None t → (before after : Numbers) → after ≡ record before { numbers = before.numbers ++ r.number ∷ [] }
      → length before.numbers + length (listed t.slots) ≤ before.room → length after.numbers + length (listed new.slots) ≤ after.room
  room_kept new is before after also room =
      let less = fewer in
      let size = ap (λ (x : Table). length (listed x.slots)) is in
      let longer = ap (λ (x : Numbers). length x.numbers) also ∙ length_append before.numbers r.number in
      let same = ap (λ (x : Numbers). x.room) also in
      omega (arith, less, size, longer, room, same)
    where
      length_append : (ns : List ℕ) (n : ℕ) → length (ns ++ n ∷ []) ≡ suc (length ns)
      length_append [] n = refl
      length_append (m ∷ ns) n = ap suc (length_append ns n)

  pub sound_ended : (new : Table) → new ≡ with_slot slot None t → AreSound t → AreSound new
  sound_ended new is sound =
      subst AreSound (sym is)
      (subst (λ (rs : List Relay). AllByRecursion (λ a. is_sound t.clock a ≡ true) rs) (sym by_number.left)
      (each_left (λ a. is_sound t.clock a ≡ true) (λ a. not (is_at r.number a)) (listed t.slots) sound))

-- what an end returns
pub from_end : (t new : Table) (slot : ℕ) (o : Option Relay) (result : Option ℕ) → MatchOption o ((result ≡ None) × (new ≡ t)) (λ r. (result ≡ Some r.number) × (new ≡ with_slot slot None t))
    → (n : ℕ) → result ≡ Some n → (r : Relay) × (o ≡ Some r) × (r.number ≡ n) × (new ≡ with_slot slot None t)
from_end t new slot None result m n is = absurd (none_some (sym m.0 ∙ is))
  where
    none_some : None ≡ Some n → ⊥
    none_some e = cc
from_end t new slot (Some r) result m n is = (r, refl, some_same r.number n (sym m.0 ∙ is), m.1)

-- ---- All that pass a test, one by one

abbrev implied : Bool → Bool → Bool
implied true b = b
implied false b = true

pub record Ending (p : Relay → Bool) (old t : Table) (before so_far : Numbers) : Type 0 where
  pub clock_is : t.clock ≡ old.clock
  pub next_is : t.next ≡ old.next
  pub size : length t.slots ≡ length old.slots
  pub capacity : so_far.room ≡ before.room
  pub left : filter (λ a. not (p a)) (listed t.slots) ≡ filter (λ a. not (p a)) (listed old.slots)
  pub counts : (n : ℕ) → times n before.numbers + times n (numbers (filter p (listed old.slots))) ≡ times n so_far.numbers + times n (numbers (filter p (listed t.slots)))
  pub room : length so_far.numbers + length (listed t.slots) ≤ so_far.room

pub ending_begins : (p : Relay → Bool) (old : Table) (before : Numbers) → length before.numbers + length (listed old.slots) ≤ before.room → Ending p old old before before
ending_begins p old before room = record { clock_is = refl; next_is = refl; size = refl; capacity = refl; left = refl; counts = λ n. refl; room = room }

module _ (follows : ListFollowsSlots) (has : ListHasSlots) (p : Relay → Bool) (old : Table) (before : Numbers) where
  among_all : (t : Table) (numbered : NumbersAreDistinct t) (slot : ℕ) (r : Relay) → Holds t slot r → p r ≡ true → Among p (is_at r.number) (listed t.slots)
  among_all t numbered slot r holds passes =
      each_of (listed t.slots) (has.all t.slots (λ a. implied (is_at r.number a) (p a)) (λ at other there. imply (is_at r.number other) (p other)
      (λ is. let here = alone follows has t numbered slot r holds at other there is in
      let same : other ≡ r = some_same other r (sym there ∙ (ap (λ (i : ℕ). get_or t.slots i None) here ∙ holds)) in
      subst (λ (x : Relay). p x ≡ true) (sym same) passes)))
    where
      imply : (a b : Bool) → (a ≡ true → b ≡ true) → implied a b ≡ true
      imply true b f = f refl
      imply false b f = refl

      of_implied : (a b : Bool) → implied a b ≡ true → a ≡ true → b ≡ true
      of_implied true b is yes_a = is
      of_implied false b is yes_a = absurd cc

      each_of : (rs : List Relay) → AllByRecursion (λ a. implied (is_at r.number a) (p a) ≡ true) rs → Among p (is_at r.number) rs
      each_of [] each = tt
      each_of (a ∷ rs) each = (of_implied (is_at r.number a) (p a) each.0, each_of rs each.1)

  pub ending_goes_on : (t : Table) (so_far : Numbers) → Ending p old t before so_far → (numbered : NumbersAreDistinct t) (slot : ℕ) (r : Relay) → Holds t slot r → p r ≡ true
      → (new : Table) → new ≡ with_slot slot None t → (after : Numbers) → after ≡ record so_far { numbers = so_far.numbers ++ r.number ∷ [] } → Ending p old new before after
  ending_goes_on t so_far e numbered slot r holds passes new is after also =
      let it = by_number follows has t numbered slot r holds in
      let some = ends_some p (is_at r.number) (listed t.slots) (among_all t numbered slot r holds passes) in
      let lists : listed new.slots ≡ left_of (is_at r.number) (listed t.slots) = ap (λ (x : Table). listed x.slots) is ∙ it.left in
      record {
        clock_is = ap (λ (x : Table). x.clock) is ∙ e.clock_is;
        next_is = ap (λ (x : Table). x.next) is ∙ e.next_is;
        size = ap (λ (x : Table). length x.slots) is ∙ (length-set t.slots slot None ∙ e.size);
        capacity = ap (λ (n : Numbers). n.room) also ∙ e.capacity;
        left = ap (filter (λ a. not (p a))) lists ∙ (some.left ∙ e.left);
        counts = λ n.
            let so = e.counts n in
            let split = some.counts n in
            let ended = ap (λ (x : Numbers). times n x.numbers) also ∙ times_append n so_far.numbers (r.number ∷ []) in
            let one = ap (times n) it.closes in
            let rest = ap (λ (rs : List Relay). times n (numbers (filter p rs))) lists in
            omega (arith, so, split, ended, one, rest);
        room = room_kept follows has t numbered slot r holds new is so_far after also e.room;
      }

  pub ending_ends : (t : Table) (so_far : Numbers) → Ending p old t before so_far → EachOf t.slots (λ _ r. p r ≡ false) → IsDone (closing p nothing (state_of old)) old t before so_far
  ending_ends t so_far e none =
      let gone = none_ends p (listed t.slots) (follows.missing t.slots p none) in
      let rest : listed t.slots ≡ filter (λ a. not (p a)) (listed old.slots) = sym gone.0 ∙ e.left in
      record {
        becomes = record {
          state_is =
              ap (λ (n : ℕ). record { clock = n; next = t.next; relays = listed t.slots }) e.clock_is
              ∙ (ap (λ (n : ℕ). record { clock = old.clock; next = n; relays = listed t.slots }) e.next_is
              ∙ ap (λ (rs : List Relay). record { clock = old.clock; next = old.next; relays = rs }) rest);
          slots = e.size;
        };
        closes = record {
          room = e.capacity;
          numbers = λ n.
              let so = e.counts n in
              let empty = ap (λ (rs : List Relay). times n (numbers rs)) gone.1 in
              let both = times_append n before.numbers (numbers (filter p (listed old.slots))) in
              omega (arith, so, empty, both);
        };
      }

-- ---- By time

not_twice : (p : Relay → Bool) (rs : List Relay) → filter (λ a. not (not (p a))) rs ≡ filter p rs
not_twice p [] = refl
not_twice p (a ∷ rs) = by_test (p a) (not_twice p rs)
  where
    by_test : (b : Bool) → filter (λ x. not (not (p x))) rs ≡ filter p rs → cond (not (not b)) (a ∷ filter (λ x. not (not (p x))) rs) (filter (λ x. not (not (p x))) rs) ≡ cond b (a ∷ filter p rs) (filter p rs)
    by_test true more = ap (λ (xs : List Relay). a ∷ xs) more
    by_test false more = more

-- what has expired is what is not live
pub expired_left : (clock : ℕ) (t new : Table) → t.clock ≡ clock → (before after : Numbers) → IsDone (closing (λ a. not (is_live clock a)) nothing (state_of t)) t new before after
    → Becomes t new (at clock (state_of t)) × Appends before after (over_at clock (state_of t))
expired_left clock t new same before after done =
    let now : max t.clock clock ≡ clock = omega (arith, same) in (
      record {
        state_is =
            done.becomes.state_is
            ∙ (ap (λ (rs : List Relay). record { clock = t.clock; next = t.next; relays = rs }) (not_twice (is_live clock) (listed t.slots))
            ∙ (ap (λ (n : ℕ). record { clock = n; next = t.next; relays = filter (is_live clock) (listed t.slots) }) (same ∙ sym now)
            ∙ ap (λ (n : ℕ). record { clock = max t.clock clock; next = t.next; relays = filter (is_live n) (listed t.slots) }) (sym now)));
        slots = done.becomes.slots;
      },
      record {
        room = done.closes.room;
        numbers = λ n. done.closes.numbers n ∙ ap (λ (m : ℕ). times n (before.numbers ++ numbers (filter (λ a. not (is_live m a)) (listed t.slots)))) (sym now);
      },
    )

-- ---- What is left is sound

-- a later clock: what was sound is
pub sound_later : (t new : Table) (clock : ℕ) → new ≡ record t { clock = clock } → t.clock ≤ clock → AreSound t → AreSound new
sound_later t new clock is le sound = subst AreSound (sym is) (each_later (listed t.slots) sound)
  where
    later : (r : Relay) → is_sound t.clock r ≡ true → is_sound clock r ≡ true
    later r so =
        let parts = and_parts ((r.family == 1) || (r.family == 2)) (nat_le r.expires_at (t.clock + seconds lifetime_max)) so in
        let expires_at = leb-true r.expires_at (t.clock + seconds lifetime_max) parts.1 in
        and_from ((r.family == 1) || (r.family == 2)) (nat_le r.expires_at (clock + seconds lifetime_max)) parts.0
        (le-leb r.expires_at (clock + seconds lifetime_max) (omega (arith, expires_at, le)))

    each_later : (rs : List Relay) → AllByRecursion (λ r. is_sound t.clock r ≡ true) rs → AllByRecursion (λ r. is_sound clock r ≡ true) rs
    each_later [] each = tt
    each_later (r ∷ rs) each = (later r each.0, each_later rs each.1)

-- before a sweep there is room
pub room_begins : ListHasSlots → (t new : Table) (now : ℕ) → new ≡ record t { clock = max t.clock now } → (before after : Numbers) → after ≡ record before { numbers = [] } → length t.slots ≡ before.room
    → length after.numbers + length (listed new.slots) ≤ after.room
room_begins has t new now is before after also room =
    let none = ap (λ (x : Numbers). length x.numbers) also in
    let same = ap (λ (x : Numbers). x.room) also in
    let lists = ap (λ (x : Table). length (listed x.slots)) is in
    let within = has.within t.slots in
    omega (arith, none, same, lists, within, room)

-- what a sweep ends, and leaves
pub swept_over : (t new : Table) (now : ℕ) → new ≡ record t { clock = max t.clock now } → over_at new.clock (state_of new) ≡ over_at now (state_of t)
swept_over t new now is =
    let same : max (max t.clock now) (max t.clock now) ≡ max t.clock now = omega arith in
    ap (λ (x : Table). over_at x.clock (state_of x)) is
    ∙ ap (λ (m : ℕ). numbers (filter (λ a. not (is_live m a)) (listed t.slots))) same

pub swept_sound : (t new : Table) → Becomes t new (at t.clock (state_of t)) → AreSound t → AreSound new
swept_sound t new becomes sound =
    let same : t.clock ≡ max t.clock t.clock = omega arith in
    subst (λ (s : State). AllByRecursion (λ r. is_sound s.clock r ≡ true) s.relays) (sym becomes.state_is)
    (subst (λ (m : ℕ). AllByRecursion (λ r. is_sound m r ≡ true) (filter (is_live m) (listed t.slots))) same
    (each_left (λ r. is_sound t.clock r ≡ true) (is_live t.clock) (listed t.slots) sound))
