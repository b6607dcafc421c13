-- How the machine's list of relayed addresses follows what is in the slots.
use Rattle.std.specs.Prelude.{◌≡◌, ℕ, ◌<◌, Bool, true, false, List, ◌∷◌, map, filter, find, Option, None, Some, length, slice_index_or, slice_set}
use Rattle.std.specs.List.{AllByRecursion}
use Rattle.turn_machine.specs.Relays.{Relay}
use Rattle.turn_relays.specs.Newest.{newest_first}
use Rattle.turn_relays.specs.Relayed.{number_of}

abbrev pub listed : List (Option Relay) → List Relay
listed slots = newest_first number_of slots

-- this is so of each relayed address in a slot
abbrev pub EachOf : List (Option Relay) → ((slot : ℕ) → Relay → Type 0) → Type 0
EachOf slots P = (slot : ℕ) (r : Relay) → slice_index_or slots slot None ≡ Some r → P slot r

-- a free slot gets a relayed address whose number is above all: it is put in front. One ends, which
-- alone fails a test: the others are left. One changes, but for its number: it changes in the list. One
-- passes a test, and no other does: it is found. None passes: none does in the list
pub record ListFollowsSlots : Type 0 where
  pub opened : (slots : List (Option Relay)) (slot : ℕ) (r : Relay) → slot < length slots
      → slice_index_or slots slot None ≡ None → EachOf slots (λ _ other. other.number < r.number)
      → listed (slice_set slots slot (Some r)) ≡ r ∷ listed slots
  pub ended : (slots : List (Option Relay)) (slot : ℕ) (r : Relay) (test : Relay → Bool)
      → slice_index_or slots slot None ≡ Some r → test r ≡ false
      → EachOf slots (λ at other. (at ≡ slot → ⊥) → test other ≡ true)
      → listed (slice_set slots slot None) ≡ filter test (listed slots)
  pub changed : (slots : List (Option Relay)) (slot : ℕ) (r : Relay) (change : Relay → Relay)
      → slice_index_or slots slot None ≡ Some r → ((a : Relay) → (change a).number ≡ a.number)
      → EachOf slots (λ at other. (at ≡ slot → ⊥) → change other ≡ other)
      → listed (slice_set slots slot (Some (change r))) ≡ map change (listed slots)
  pub found : (slots : List (Option Relay)) (slot : ℕ) (r : Relay) (test : Relay → Bool)
      → slice_index_or slots slot None ≡ Some r → test r ≡ true
      → EachOf slots (λ at other. test other ≡ true → at ≡ slot)
      → find test (listed slots) ≡ Some r
  pub missing : (slots : List (Option Relay)) (test : Relay → Bool)
      → EachOf slots (λ _ other. test other ≡ false)
      → AllByRecursion (λ r. test r ≡ false) (listed slots)
