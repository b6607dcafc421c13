-- Which challenges are still answered.
use Rattle.std.specs.Prelude.{ℕ, Bool, false, ◌||◌, Option, ◌==◌}
use Rattle.std.specs.List.{list_any}
use Rattle.std.specs.Option.{option_map_or}
use Rattle.turn_client_machine.specs.declared.tasks.Task.{Task}
use Rattle.turn_client_machine.specs.Clients.{State}

abbrev pub is_challenge : (number : ℕ) → (challenge : Option ℕ) → Bool
is_challenge number challenge = option_map_or (λ n. n == number) challenge false

abbrev pub answers : (number : ℕ) → Task → Bool
answers number task = option_map_or (λ p. is_challenge number p.request.challenge) task.pending false

-- the newest challenge, or that of a request under way
abbrev pub has_challenge : (number : ℕ) → State → Bool
has_challenge number state =
    is_challenge number state.challenge
    || (answers number state.task || list_any (λ p. answers number p.task) state.peers)
