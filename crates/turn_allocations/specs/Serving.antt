-- The answer to a request, and what it leaves, after what has expired has ended.
use Rattle.std.specs.Prelude.{◌≡◌, ℕ, Bool, true, ◌++◌, List, Option, None, Some}
use Rattle.stun_endpoints.specs.declared.endpoints.FiveTuple.{FiveTuple}
use Rattle.turn_machine.specs.Relays.{Relay, Setup, Rules}
use Rattle.turn_machine.specs.Events.{Request, answers}
use Rattle.turn_machine.specs.Steps.{Step, serves}
use Rattle.turn_relays.specs.Relayed.{Table, state_of, Holds}
use Rattle.turn_allocations.specs.declared.answer.Answer.{Answer}
use Rattle.turn_allocations.specs.Answers.{answer_of}
use Rattle.turn_allocations.specs.Clients.{Becomes}
use Rattle.turn_allocations.specs.Ending.{Numbers, AreSame}

-- the first row that applies, or else the others
abbrev pub or_else : Option ℕ → Option ℕ → Option ℕ
or_else None others = others
or_else (Some code) others = Some code

-- the numbers of the sockets that end are appended, in any order
pub record Appends (old new : Numbers) (closes : List ℕ) : Type 0 where
  pub room : new.room ≡ old.room
  pub numbers : AreSame new.numbers (old.numbers ++ closes)

-- the table and the numbers are what a step of the machine leaves
pub record IsDone (s : Step) (old new : Table) (before after : Numbers) : Type 0 where
  pub becomes : Becomes old new s.state
  pub closes : Appends before after s.closes

-- the machine serves a request with this answer
pub record Serves (setup : Setup) (rules : Rules) (tuple : FiveTuple) (user : ℕ) (request : Request)
    (old new : Table) (before after : Numbers) (answer : Answer) : Type 0 where
  pub answered : (serves setup rules tuple user request (state_of old)).output
      ≡ answers tuple (answer_of answer)
  pub done : IsDone (serves setup rules tuple user request (state_of old)) old new before after

-- only the relayed address in this slot passes a test
abbrev pub IsOnly : Table → (Relay → Bool) → (slot : ℕ) → Type 0
IsOnly t test slot =
    (r : Relay) × Holds t slot r × (test r ≡ true)
    × ((at : ℕ) (other : Relay) → Holds t at other → test other ≡ true → at ≡ slot)
