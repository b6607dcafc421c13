use Rattle.std.proofs.Common.{◌≤◌, ℕ, subst}
use Rattle.turn_client_machine.proofs.StayingLemmas.{few_attempts}
use Rattle.turn_client_machine.specs.Attempts.{begun_attempt}
use Rattle.turn_client.proofs.AttemptsLemmas.{followed}
use Rattle.turn_client.proofs.laws.attempts.attempts_are_few.Goals as goal

pub returns : goal.returns
returns c = λ first lives are.
    let next = followed (begun_attempt first) lives are in
    subst (λ (n : ℕ). n ≤ 11) next.2 (few_attempts first next.0 next.1)
