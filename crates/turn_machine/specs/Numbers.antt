-- The numbers of sockets over whole runs: each is given once, and closed once.
use Rattle.std.specs.Prelude.{◌≡◌, ℕ, List, [], ◌∷◌, ◌++◌, count_by, ◌==◌}
use Rattle.stun_endpoints.specs.declared.endpoints.FiveTuple.{FiveTuple}
use Rattle.turn_machine.specs.Lists.{SomeOf}
use Rattle.turn_machine.specs.Relays.{State}
use Rattle.turn_machine.specs.Events.{Given, Missing, Output, answers, allocated}
use Rattle.turn_machine.specs.Runs.{Happening}

-- all numbers that were reported as closed so far
abbrev pub all_closed : List Happening → List ℕ
all_closed [] = []
all_closed (h ∷ earlier) = h.closes ++ all_closed earlier

-- how many relayed addresses in the state have a number
abbrev pub kept_times : (number : ℕ) → State → ℕ
kept_times number state = count_by (λ a. a.number == number) state.relays

-- a success response to an Allocate request has this number
pub record Gives (number : ℕ) (output : Output) : Type 0 where
  pub tuple : FiveTuple
  pub given : List Given
  pub lifetime : ℕ
  pub missing : List Missing
  pub answered : output ≡ answers tuple (allocated given lifetime missing)
  pub has : SomeOf (λ g. g.number ≡ number) given

abbrev pub IsGiven : (number : ℕ) → List Happening → Type 0
IsGiven number hs = SomeOf (λ h. Gives number h.output) hs
