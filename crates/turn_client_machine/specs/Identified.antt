-- Which request a response is to: transaction IDs (RFC 8489, section 6).
use Rattle.std.specs.Prelude.{◌≡◌, ◌⊎◌, ℕ, List, [], ◌∷◌, Some}
use Rattle.std.specs.Option.{option_map}
use Rattle.turn_machine.specs.Lists.{SomeOf}
use Rattle.turn_client_machine.specs.Clients.{Endpoint, Request, Task, State}
use Rattle.turn_client_machine.specs.Events.{polls}
use Rattle.turn_client_machine.specs.Runs.{Timed}
use Rattle.turn_client_machine.specs.Warrants.{IsPartOf}

-- a poll with this random number
abbrev pub IsPollWith : (fresh : ℕ) → Timed → Type 0
IsPollWith fresh timed = (timed.event ≡ polls) × (timed.fresh ≡ fresh)

-- no two polls have the same random number
abbrev pub AreDistinct : List Timed → Type 0
AreDistinct [] = Unit {0}
AreDistinct (timed ∷ earlier) =
    (timed.event ≡ polls → SomeOf (IsPollWith timed.fresh) earlier → ⊥) × AreDistinct earlier

-- both are asked for by one request
pub record AreOneRequest (r other : Request) : Type 0 where
  pub first : Request
  pub others : List Endpoint
  pub one : IsPartOf first others r
  pub two : IsPartOf first others other

-- a request awaits its response: of a task, and of a client
abbrev pub IsAwaitedBy : Task → Request → Type 0
IsAwaitedBy t r = option_map (λ p. p.request) t.pending ≡ Some r

abbrev pub IsUnderWay : State → Request → Type 0
IsUnderWay state r =
    IsAwaitedBy state.task r ⊎ SomeOf (λ p. IsAwaitedBy p.task r) state.peers
