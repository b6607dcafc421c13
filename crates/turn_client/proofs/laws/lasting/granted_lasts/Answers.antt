use Rattle.std.proofs.Common.{◌≡◌, true, sym, subst}
use Rattle.turn_client_machine.specs.Clients.{is_allocated}
use Rattle.turn_client_machine.specs.Lasting.{IsAlive, IsInTime}
use Rattle.turn_client_machine.specs.Steps.{at}
use Rattle.turn_client_state.specs.States.{Held, setup_of}
use Rattle.turn_client.specs.Runs.{timed_all}
use Rattle.turn_client.proofs.RunsLemmas.{held_run}
use Rattle.turn_client.proofs.laws.lasting.granted_lasts.Goals as goal

pub returns : goal.returns
returns c client moments now late begun soon =
    subst (λ (h : Held). is_allocated h.state.phase ≡ true → IsInTime late (at now h.state) → IsAlive (at now h.state))
    (sym (held_run client moments begun))
    (c.granted_lasts.ensures (setup_of client.held.settings) (timed_all client moments) now late soon)
