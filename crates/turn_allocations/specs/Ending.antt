-- The numbers of the sockets that a call ends.
use Rattle.std.specs.Prelude.{◌≡◌, ℕ, List}
use Rattle.turn_machine.specs.Lists.{times}

-- a list of numbers, and for how many there is room
pub record Numbers : Type 0 where
  pub room : ℕ
  pub numbers : List ℕ

-- the same numbers in any order
abbrev pub AreSame : List ℕ → List ℕ → Type 0
AreSame some others = (n : ℕ) → times n some ≡ times n others
