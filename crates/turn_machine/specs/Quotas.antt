-- The users of a run's requests (RFC 8656, section 5).
use Rattle.std.specs.Prelude.{◌≡◌, ℕ, true, List, ◌==◌}
use Rattle.std.specs.List.{AllByRecursion, list_any}
use Rattle.turn_machine.specs.Events.{Event, asks}
use Rattle.turn_machine.specs.Runs.{Timed}

-- if the event is a request, its user satisfies Who
abbrev pub IsBy : (ℕ → Type 0) → Event → Type 0
IsBy Who (asks tuple user request) = Who user
IsBy Who _ = Unit {0}

abbrev pub IsOneOf : List ℕ → ℕ → Type 0
IsOneOf users user = list_any (λ u. user == u) users ≡ true

abbrev pub AreBy : List ℕ → List Timed → Type 0
AreBy users events = AllByRecursion (λ t. IsBy (IsOneOf users) t.event) events
