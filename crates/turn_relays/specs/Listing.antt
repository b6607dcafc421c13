-- The machine's list of relayed addresses has exactly those in the slots, the newest first.
use Rattle.std.specs.Prelude.{◌≡◌, ◌⊎◌, ℕ, ◌<◌, ◌≤◌, Bool, true, List, [], ◌∷◌, filter, Option, None, Some, length, slice_index_or}
use Rattle.std.specs.List.{AllByRecursion}
use Rattle.turn_machine.specs.Relays.{Relay}
use Rattle.turn_relays.specs.Following.{listed, EachOf}

-- this slot has this relayed address
abbrev pub HasAt : List (Option Relay) → (slot : ℕ) → Relay → Type 0
HasAt slots slot r = slice_index_or slots slot None ≡ Some r

-- All relayed addresses in the slots pass a test if and only if all in the list do. If exactly one passes
-- a test, filtering the list by it leaves that one; if exactly two do, it leaves both, the newer first. The
-- list has at most as many relayed addresses as there are slots, and as many if no slot is free
pub record ListHasSlots : Type 0 where
  pub all : (slots : List (Option Relay)) (test : Relay → Bool)
      → EachOf slots (λ _ r. test r ≡ true) → AllByRecursion (λ r. test r ≡ true) (listed slots)
  pub each : (slots : List (Option Relay)) (test : Relay → Bool)
      → AllByRecursion (λ r. test r ≡ true) (listed slots) → EachOf slots (λ _ r. test r ≡ true)
  pub one : (slots : List (Option Relay)) (test : Relay → Bool) (slot : ℕ) (r : Relay)
      → HasAt slots slot r → test r ≡ true
      → EachOf slots (λ at other. test other ≡ true → at ≡ slot)
      → filter test (listed slots) ≡ r ∷ []
  pub two : (slots : List (Option Relay)) (test : Relay → Bool) (slot other : ℕ) (r s : Relay)
      → HasAt slots slot r → HasAt slots other s → test r ≡ true → test s ≡ true
      → s.number < r.number
      → EachOf slots (λ at a. test a ≡ true → (at ≡ slot) ⊎ (at ≡ other))
      → filter test (listed slots) ≡ r ∷ s ∷ []
  pub within : (slots : List (Option Relay)) → length (listed slots) ≤ length slots
  pub full : (slots : List (Option Relay))
      → ((slot : ℕ) → slot < length slots → (r : Relay) × HasAt slots slot r)
      → length (listed slots) ≡ length slots
