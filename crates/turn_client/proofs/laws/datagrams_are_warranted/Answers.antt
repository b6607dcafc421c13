use Rattle.std.proofs.Common.{sym, ap, subst}
use Rattle.turn_client_machine.specs.Runs.{history}
use Rattle.turn_client_machine.specs.Steps.{at}
use Rattle.turn_client_machine.specs.Warrants.{IsRight}
use Rattle.turn_client_state.specs.States.{Held, output_at, setup_of}
use Rattle.turn_client.specs.Runs.{after_all, event_in, fresh_in, timed_all}
use Rattle.turn_client.proofs.RunsLemmas.{held_run}
use Rattle.turn_client.proofs.laws.datagrams_are_warranted.Goals as goal

pub returns-clause-state : goal.returns-clause-state
returns-clause-state c client moments begun = ap (λ (h : Held). h.state) (held_run client moments begun)

pub returns-clause-right : goal.returns-clause-right
returns-clause-right c client earlier now fresh call begun =
    let setup = setup_of client.held.settings in
    let before = after_all client earlier in
    let event = event_in before call in
    subst (λ (h : Held). IsRight setup (history setup (timed_all client earlier)) (at now h.state).clock event (output_at now (fresh_in fresh call) event h))
    (sym (held_run client earlier begun))
    (c.data_is_warranted.ensures setup (timed_all client earlier) (record { now = now; fresh = fresh_in fresh call; event = event }))
