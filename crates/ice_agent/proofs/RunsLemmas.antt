-- An agent's runs are the machine's.
use Rattle.std.proofs.Common.{◌≡◌, ◌∙◌, ℕ, List, [], ◌∷◌, refl, ap}
use Rattle.ice_machine.specs.Runs.{Begin, run}
use Rattle.ice_agent_state.specs.Agents.{after}
use Rattle.ice_agent.specs.Agents.{Agent}
use Rattle.ice_agent.specs.Runs.{Call, calls, learns_peer, takes, IsBegun, Moment, after_all, event_in, fresh_in, stepped, timed_all}

stepped_held : (agent : Agent) (now fresh : ℕ) (call : Call) → (stepped agent now fresh call).held ≡ after now (fresh_in fresh call) (event_in agent call) agent.held
stepped_held agent now fresh (calls event) = refl
stepped_held agent now fresh (learns_peer peer) = refl
stepped_held agent now fresh (takes base from d) = refl

pub held_run : (begin : Begin) (agent : Agent) (moments : List Moment) → IsBegun begin agent → (after_all agent moments).held ≡ record agent.held { state = run agent.held.setup begin (timed_all agent moments) }
held_run begin agent [] begun = λ i. record agent.held { state = begun.state_is i }
held_run begin agent (m ∷ earlier) begun =
    let before = after_all agent earlier in
    stepped_held before m.now m.fresh m.call
    ∙ ap (after m.now (fresh_in m.fresh m.call) (event_in before m.call)) (held_run begin agent earlier begun)
