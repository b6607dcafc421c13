-- An attempt by its parts, and clients that follow one another.
use Rattle.std.specs.Prelude.{◌≡◌, ℕ, ◌&&◌, List, [], ◌∷◌, length, Option, None, Some, nat_le, if◌then◌else◌}
use Rattle.turn_client_machine.specs.Attempts.{Attempt, next_attempt}
use Rattle.turn_client_machine.specs.Clients.{Endpoint}
use Rattle.turn_client_machine.specs.declared.phases.End.{End}
use Rattle.turn_client_machine.specs.declared.phases.Phase.TheVariants.{Ended}
use Rattle.turn_client.specs.Clients.{Client}
use Rattle.turn_client.specs.Runs.{Moment, after_all}

-- the server has had two clients before at most, and at most three servers were asked before it
abbrev pub attempt_by : (server : Endpoint) → (tries : ℕ) → (before : List Endpoint) → Option Attempt
attempt_by server tries before =
    if nat_le tries 2 && nat_le (length before) 3
    then Some (record { server = server; tries = tries; before = before }) else None

-- ---- Clients that follow one another

-- a client, all that was called and came, and the reason for which it has ended
pub record Life : Type 0 where
  pub client : Client
  pub moments : List Moment
  pub why : End

pub record IsLifeAt (server : Endpoint) (life : Life) : Type 0 where
  pub server_is : life.client.held.settings.server ≡ server
  pub ended : (after_all life.client life.moments).held.state.phase ≡ Ended life.why

-- each of these clients was at the server of its attempt and has ended, and an attempt followed
abbrev pub AreFollowed : Attempt → List Life → Type 0
AreFollowed a [] = Unit {0}
AreFollowed a (life ∷ later) = IsLifeAt a.server life
    × ((b : Attempt) × (next_attempt a life.why ≡ Some b) × AreFollowed b later)
