-- What an agent must not leave undone, in what its calls return.
use Rattle.std.specs.Prelude.{ℕ, ◌⊎◌, List, Option, Result}
use Rattle.std.specs.List.{AllByRecursion}
use Rattle.stun_grammar.specs.declared.error.StunWriteError.{StunWriteError}
use Rattle.ice_machine.specs.declared.pairs.Pair.{Pair}
use Rattle.ice_machine.specs.Agents.{State}
use Rattle.ice_machine.specs.Checks.{request_on}
use Rattle.ice_machine.specs.Steps.{at}
use Rattle.ice_machine.specs.Works.{IsAmong, IsIdle, Precedes}
use Rattle.ice_agent.specs.declared.sending.Sending.{Sending}
use Rattle.ice_agent.specs.Agents.{Agent}
use Rattle.ice_agent.specs.Sending.{IsSent}

-- a poll writes a request on a pair, which comes before all others, or its error says that the slice has no room
-- for it
pub record IsFirstSent (agent : Agent) (state : State) (fresh : ℕ) (old new : List ℕ)
    (result : Result (Option Sending) StunWriteError) : Type 0 where
  pub pair : Pair
  pub known : IsAmong pair state.pairs
  pub sent : IsSent agent agent.logins.peer (request_on agent.held.setup state fresh pair) old new result
  pub first : AllByRecursion (Precedes agent.held.setup state pair) state.pairs

-- or no request is due on any
abbrev pub IsBusy : Agent → (now fresh : ℕ) → (old new : List ℕ) → Result (Option Sending) StunWriteError
    → Type 0
IsBusy agent now fresh old new result = let state = at agent.held.setup now agent.held.state in
    IsFirstSent agent state fresh old new result
    ⊎ AllByRecursion (IsIdle agent.held.setup state) state.pairs
