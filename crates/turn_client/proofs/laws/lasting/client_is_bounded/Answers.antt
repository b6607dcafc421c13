use Rattle.std.proofs.Common.{◌≤◌, sym, subst}
use Rattle.turn_client_machine.specs.Bounds.{AreNumbered, IsWithin, requests_at_once}
use Rattle.turn_client_state.specs.States.{Held, setup_of}
use Rattle.turn_client.specs.Runs.{timed_all}
use Rattle.turn_client.proofs.RunsLemmas.{held_run}
use Rattle.turn_client.proofs.laws.lasting.client_is_bounded.Goals as goal

pub returns-clause-kept : goal.returns-clause-kept
returns-clause-kept c client moments begun =
    let setup = setup_of client.held.settings in
    subst (λ (h : Held). IsWithin setup h.state) (sym (held_run client moments begun)) (c.client_is_bounded.ensures.kept setup (timed_all client moments))

pub returns-clause-numbered : goal.returns-clause-numbered
returns-clause-numbered c client moments begun =
    subst (λ (h : Held). AreNumbered h.state.peers) (sym (held_run client moments begun))
    (c.client_is_bounded.ensures.numbered (setup_of client.held.settings) (timed_all client moments))

pub returns-clause-at_once : goal.returns-clause-at_once
returns-clause-at_once c client moments begun =
    subst (λ (h : Held). requests_at_once h.state ≤ 10) (sym (held_run client moments begun))
    (c.client_is_bounded.ensures.at_once (setup_of client.held.settings) (timed_all client moments))
