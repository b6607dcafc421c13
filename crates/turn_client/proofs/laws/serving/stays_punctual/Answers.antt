use Rattle.std.proofs.Common.{◌≡◌, ◌++◌, true, sym, subst}
use Rattle.std.specs.List.{AllByRecursion, list_any}
use Rattle.turn_client_machine.specs.Clients.{is_allocated, is_peer}
use Rattle.turn_client_machine.specs.Lasting.{IsInTime, IsServed, IsServedFor}
use Rattle.turn_client_machine.specs.Reach.{IsPunctual, IsUsable}
use Rattle.turn_client_machine.specs.Steps.{at}
use Rattle.turn_client_state.specs.States.{Held, setup_of}
use Rattle.turn_client.specs.Runs.{after_all, timed_all}
use Rattle.turn_client.proofs.RunsLemmas.{held_run, held_since}
use Rattle.turn_client.proofs.laws.serving.stays_punctual.Goals as goal

pub returns : goal.returns
returns c client since earlier now late slack named peer begun soon same =
    let setup = setup_of client.held.settings in
    let more = timed_all (after_all client earlier) since in
    let events = timed_all client earlier in
    subst (λ (x : Held). is_allocated x.state.phase ≡ true → list_any (is_peer named) x.state.peers ≡ true → AllByRecursion (IsUsable named) x.state.peers → IsServed setup more events → IsServedFor setup named more events
    → IsInTime late (at now (after_all client (since ++ earlier)).held.state) → IsPunctual late slack named peer (at now (after_all client (since ++ earlier)).held.state))
    (sym (held_run client earlier begun))
    (λ there known usable served served_for.
    subst (λ (h : Held). IsInTime late (at now h.state) → IsPunctual late slack named peer (at now h.state))
    (sym (held_since client since earlier begun))
    (c.stays_punctual.ensures.served setup more events now late slack named peer soon same there known usable served served_for))
