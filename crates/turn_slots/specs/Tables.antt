-- What is kept beside the entries, by which each call finds what it needs.
use Rattle.std.specs.Prelude.{◌≡◌, ℕ, ◌+◌, ◌%◌, ◌<◌, ◌≤◌, ◌^◌, List, Option, None, Some, length, map, slice_index, slice_index_or}
use Rattle.turn_slots.specs.Relays.{RelayKey}
use Rattle.turn_slots.specs.Users.{UserId}
use Rattle.turn_slots.specs.Numbers.{places, rounds}
use Rattle.turn_slots.specs.Slots.{Entry}
use Rattle.turn_slots.specs.Groups.{Partition, number_in}
use Rattle.turn_slots.specs.Deadlines.{never}

abbrev pub key_at : Option Entry → Option RelayKey
key_at None = None
key_at (Some e) = Some e.key

abbrev pub deadline_at : Option Entry → ℕ
deadline_at None = never
deadline_at (Some e) = e.deadline

-- each slot's group of holders is its user's place among the users; a free slot is in the last group
pub record AreHeld (entries : List (Option Entry)) (users : List (Option UserId))
    (holders : Partition) : Type 0 where
  pub groups : holders.groups ≡ length entries + 1
  pub members : length holders.group_of ≡ length entries
  pub users_size : length users ≡ length entries
  pub free : (slot : ℕ) → slot < length entries → slice_index_or entries slot None ≡ None
      → slice_index holders.group_of slot ≡ length entries
  pub held : (slot : ℕ) (e : Entry) → slice_index_or entries slot None ≡ Some e
      → slice_index_or users (slice_index holders.group_of slot) None ≡ Some e.user
  pub used : (place : ℕ) (user : UserId) → slice_index_or users place None ≡ Some user
      → 0 < number_in place holders.group_of
  pub one : (p q : ℕ) (user : UserId) → slice_index_or users p None ≡ Some user
      → slice_index_or users q None ≡ Some user → p ≡ q

pub record IsTable (round : ℕ) (entries : List (Option Entry)) (keys : List (Option RelayKey))
    (users : List (Option UserId)) (holders : Partition) (deadlines : List ℕ) : Type 0 where
  pub few : length entries < 2 ^ 24
  pub bounded : round ≤ rounds
  pub keys_are : keys ≡ map key_at entries
  pub deadlines_are : deadlines ≡ map deadline_at entries
  pub users_are : AreHeld entries users holders
  pub one_key : (i j : ℕ) (a b : Entry) → slice_index_or entries i None ≡ Some a
      → slice_index_or entries j None ≡ Some b → a.key ≡ b.key → i ≡ j
  pub numbered : (slot : ℕ) (e : Entry) → slice_index_or entries slot None ≡ Some e
      → e.number % places ≡ slot
  pub soon : (slot : ℕ) (e : Entry) → slice_index_or entries slot None ≡ Some e
      → e.deadline < never

-- a user's place among the users, which is a new one only if the user had none
pub record IsPlaceOf (user : UserId) (old : List (Option UserId)) (place : ℕ)
    (new : List (Option UserId)) : Type 0 where
  pub there : slice_index_or new place None ≡ Some user
  pub size : length new ≡ length old
  pub others : (p : ℕ) → (p ≡ place → ⊥) → slice_index_or new p None ≡ slice_index_or old p None
  pub fits : (u : UserId) → slice_index_or old place None ≡ Some u → u ≡ user
  pub only : (p : ℕ) → slice_index_or old p None ≡ Some user
      → slice_index_or old place None ≡ Some user
