-- What callers see of a server's allocations, and what each call does.
use Rattle.std.specs.Prelude.{◌≡◌, ℕ, ◌+◌, ◌≤◌, ◌^◌, ◌==◌, true, List}
use Rattle.std.specs.List.{AllByRecursion, list_any}
use Rattle.turn_machine.specs.Relays.{Relay, Setup, Rules, State}
use Rattle.turn_machine.specs.Events.{Event, Output}
use Rattle.turn_machine.specs.Steps.{step}
use Rattle.turn_allocations.specs.declared.limits.Limits.{Limits}
use Rattle.turn_allocations.specs.Ending.{AreSame}

-- the limits, the machine's state, and the numbers of the sockets that the last call ended
pub record Serving : Type 0 where
  pub limits : Limits
  pub state : State
  pub ended : List ℕ

-- A call is a step of the machine with this output. The numbers of the sockets that end are in any order. The
-- next number grows by at most 2^26, so numbers last for at least 2^38 calls
pub record IsStep (setup : Setup) (rules : Rules) (old : Serving) (now : ℕ) (event : Event)
    (output : Output) (new : Serving) : Type 0 where
  pub state_is : new.state ≡ (step setup rules old.state now event).state
  pub output_is : output ≡ (step setup rules old.state now event).output
  pub ended_are : AreSame new.ended (step setup rules old.state now event).closes
  pub limits_are : new.limits ≡ old.limits
  pub slow : new.state.next ≤ old.state.next + 2 ^ 26

-- one of them expires at this moment, and none before
pub record IsNextEnd (due : ℕ) (relays : List Relay) : Type 0 where
  pub some : list_any (λ r. r.expires_at == due) relays ≡ true
  pub least : AllByRecursion (λ r. due ≤ r.expires_at) relays
