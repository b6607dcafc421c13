-- A client's runs are the machine's.
use Rattle.std.proofs.Common.{◌≡◌, ◌∙◌, ◌++◌, ℕ, List, [], ◌∷◌, refl, ap}
use Rattle.turn_client_machine.specs.Runs.{Timed, run}
use Rattle.turn_client_state.specs.States.{after, setup_of}
use Rattle.turn_client.specs.Clients.{Client}
use Rattle.turn_client.specs.Runs.{Call, calls, takes, IsBegun, Moment, after_all, event_in, fresh_in, stepped, timed_at, timed_all}

stepped_held : (client : Client) (now fresh : ℕ) (call : Call) → (stepped client now fresh call).held ≡ after now (fresh_in fresh call) (event_in client call) client.held
stepped_held client now fresh (calls event) = refl
stepped_held client now fresh (takes from d brought) = refl

pub held_run : (client : Client) (moments : List Moment) → IsBegun client → (after_all client moments).held ≡ record client.held { state = run (setup_of client.held.settings) (timed_all client moments) }
held_run client [] begun = λ i. record client.held { state = begun i }
held_run client (m ∷ earlier) begun =
    let before = after_all client earlier in
    stepped_held before m.now m.fresh m.call
    ∙ ap (after m.now (fresh_in m.fresh m.call) (event_in before m.call)) (held_run client earlier begun)

-- ---- More, after a run

after_more : (client : Client) (since earlier : List Moment) → after_all client (since ++ earlier) ≡ after_all (after_all client earlier) since
after_more client [] earlier = refl
after_more client (m ∷ since) earlier = ap (λ (c : Client). stepped c m.now m.fresh m.call) (after_more client since earlier)

timed_more : (client : Client) (since earlier : List Moment) → timed_all client (since ++ earlier) ≡ timed_all (after_all client earlier) since ++ timed_all client earlier
timed_more client [] earlier = refl
timed_more client (m ∷ since) earlier =
    λ i. timed_at (after_more client since earlier i) m ∷ timed_more client since earlier i

pub held_since : (client : Client) (since earlier : List Moment) → IsBegun client
    → (after_all client (since ++ earlier)).held ≡ record client.held { state = run (setup_of client.held.settings) (timed_all (after_all client earlier) since ++ timed_all client earlier) }
held_since client since earlier begun =
    held_run client (since ++ earlier) begun
    ∙ ap (λ (events : List Timed). record client.held { state = run (setup_of client.held.settings) events }) (timed_more client since earlier)
