use Rattle.std.proofs.Common.{◌≡◌, ◌≤◌, true, sym, subst}
use Rattle.turn_machine.specs.Runs.{history as s_history, run as s_run}
use Rattle.turn_client_machine.specs.Clients.{is_allocated}
use Rattle.turn_client_machine.specs.Joined.{IsLinked, one_clock, ServerKeeps}
use Rattle.turn_client_machine.specs.Lasting.{IsInTime}
use Rattle.turn_client_machine.specs.Steps.{at}
use Rattle.turn_client_state.specs.States.{Held, setup_of}
use Rattle.turn_client.specs.Histories.{past}
use Rattle.turn_client.specs.Runs.{timed_all}
use Rattle.turn_client.proofs.RunsLemmas.{held_run}
use Rattle.turn_client.proofs.laws.serving.server_keeps.Goals as goal

pub returns : goal.returns
returns c client moments now late server there tuple user begun soon =
    let setup = setup_of client.held.settings in
    subst (λ (h : Held). is_allocated h.state.phase ≡ true → IsInTime late (at now h.state) → (s_run server there).clock ≤ (at now h.state).clock
    → IsLinked one_clock setup (past client moments) (s_history server there) tuple user → ServerKeeps (s_history server there) tuple user (at now h.state))
    (sym (held_run client moments begun))
    (c.server_keeps.ensures setup (timed_all client moments) now late server there tuple user soon)
