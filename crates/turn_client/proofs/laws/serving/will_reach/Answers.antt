use Rattle.std.proofs.Common.{◌≡◌, ◌++◌, sym, subst, ◌∙◌, ap}
use Rattle.turn_machine.specs.Events.{arrives as s_arrives}
use Rattle.turn_machine.specs.Runs.{run as s_run}
use Rattle.turn_machine.specs.Times.{at as s_at}
use Rattle.turn_machine.specs.Works.{output_of as output_there}
use Rattle.turn_client_machine.specs.Events.{Event, nothing, sends, shows}
use Rattle.turn_client_machine.specs.Joined.{at_client}
use Rattle.turn_client_machine.specs.Reach.{Arrives, happened_since, IsPunctual, IsRelayed, IsSettled, IsSocket}
use Rattle.turn_client_machine.specs.Steps.{at}
use Rattle.turn_client_state.specs.States.{Held, output_at, setup_of}
use Rattle.turn_client.specs.Histories.{past}
use Rattle.turn_client.specs.Runs.{after_all, timed_all}
use Rattle.turn_client.proofs.RunsLemmas.{held_run, held_since}
use Rattle.turn_client.proofs.laws.serving.will_reach.Goals as goal

pub returns-clause-sent : goal.returns-clause-sent
returns-clause-sent c client moments server since earlier rules tuple user now there peer bytes begun j allowed =
    subst (λ (h : Held). Arrives j.shown j.drift 0 (at now h.state).clock (s_at there (s_run server (since ++ earlier))).clock → (output_at now 0 (sends peer bytes) h ≡ nothing → ⊥)
    → IsRelayed server since earlier rules tuple user h.state.relayed there peer bytes (output_at now 0 (sends peer bytes) h))
    (sym (held_run client moments begun))
    (c.will_reach.ensures.sent (setup_of client.held.settings) (timed_all client moments) server since earlier rules tuple user now 0 there peer bytes j allowed)

pub returns-clause-punctual : goal.returns-clause-punctual
returns-clause-punctual c client moments server since earlier rules tuple user now there late slack named peer bytes begun j allowed =
    subst (λ (h : Held). Arrives j.shown j.drift slack (at now h.state).clock (s_at there (s_run server (since ++ earlier))).clock → IsPunctual late slack named peer (at now h.state)
    → IsRelayed server since earlier rules tuple user h.state.relayed there peer bytes (output_at now 0 (sends peer bytes) h))
    (sym (held_run client moments begun))
    (c.will_reach.ensures.punctual (setup_of client.held.settings) (timed_all client moments) server since earlier rules tuple user now 0 there late slack named peer bytes j allowed)

pub returns-clause-back : goal.returns-clause-back
returns-clause-back c client more moments server since earlier rules tuple user moment now there late slack relay named peer from bytes d begun j allowed arrives punctual socket in_time settled event =
    let setup = setup_of client.held.settings in
    let other = at_client client.held.settings.server (output_there server (since ++ earlier) there rules (s_arrives relay peer bytes)) in
    let after = after_all client (more ++ moments) in
    ap (λ (e : Event). output_at now 0 e after.held) event
    ∙ subst (λ (x : Held). Arrives j.shown j.drift slack (at moment x.state).clock (s_at there (s_run server (since ++ earlier))).clock → IsPunctual late slack named peer (at moment x.state)
    → IsSocket tuple user relay x.state.relayed (happened_since server since earlier) → IsPunctual late 0 named peer (at now (after_all client (more ++ moments)).held.state)
    → IsSettled (past client moments) peer (at now (after_all client (more ++ moments)).held.state)
    → output_at now 0 other (after_all client (more ++ moments)).held ≡ shows peer bytes)
    (sym (held_run client moments begun))
    (λ arrives punctual socket.
    subst (λ (h : Held). IsPunctual late 0 named peer (at now h.state) → IsSettled (past client moments) peer (at now h.state) → output_at now 0 other h ≡ shows peer bytes)
    (sym (held_since client more moments begun))
    (c.will_reach.ensures.back setup (timed_all client moments) (timed_all (after_all client moments) more) server since earlier rules tuple user moment now 0 there late slack relay named peer bytes j allowed arrives punctual socket))
    arrives punctual socket in_time settled
