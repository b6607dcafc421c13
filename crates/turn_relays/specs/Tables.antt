-- The entries of the slots and what is kept besides agree.
use Rattle.std.specs.Prelude.{◌≡◌, ℕ, ◌+◌, ◌*◌, ◌%◌, ◌<◌, ◌≤◌, ◌^◌, List, Option, None, Some, is_some, length, slice_index_or}
use Rattle.turn_slots.specs.declared.slots.Entry.{Entry}
use Rattle.turn_slots.specs.Slots.{State}
use Rattle.turn_slots.specs.Numbers.{places}
use Rattle.turn_slots.specs.Deadlines.{never}
use Rattle.turn_relays.specs.Relayed.{Grants}

-- the lower half of a user's number has 128 bits
abbrev pub IsUser : Entry → Type 0
IsUser e = e.user.low < 2 ^ 128

-- a slot has something kept besides if and only if it has an entry; `next` is above all numbers, and at most the
-- next number, which is near; a number has its slot in its low bits, and no two entries have the same key
pub record IsTable (next : ℕ) (slots : State) (kept : List (Option Grants)) : Type 0 where
  pub few : length slots.entries < places
  pub size : length kept ≡ length slots.entries
  pub beside : (i : ℕ) → is_some (slice_index_or slots.entries i None) ≡ is_some (slice_index_or kept i None)
  pub fresh : next ≤ slots.round * places
  pub near : slots.round * places ≤ next + places
  pub below : (i : ℕ) (e : Entry) → slice_index_or slots.entries i None ≡ Some e → e.number < next
  pub users : (i : ℕ) (e : Entry) → slice_index_or slots.entries i None ≡ Some e → IsUser e
  pub numbered : (i : ℕ) (e : Entry) → slice_index_or slots.entries i None ≡ Some e → e.number % places ≡ i
  pub one_key : (i j : ℕ) (a b : Entry) → slice_index_or slots.entries i None ≡ Some a
      → slice_index_or slots.entries j None ≡ Some b → a.key ≡ b.key → i ≡ j
  pub soon : (i : ℕ) (e : Entry) → slice_index_or slots.entries i None ≡ Some e → e.deadline < never
