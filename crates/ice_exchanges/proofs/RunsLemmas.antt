-- The runs of an agent, from any state, are the machine's.
use Rattle.std.proofs.Common.{◌≡◌, List, [], ◌∷◌, refl, ap, ◌∙◌}
use Rattle.ice_machine.specs.Meetings.{disturbed}
use Rattle.ice_machine.specs.Steps.{step}
use Rattle.ice_agent_state.specs.Agents.{Held}
use Rattle.ice_agent.specs.Agents.{Agent}
use Rattle.ice_agent.specs.Runs.{Moment, after_all, event_in, fresh_in, timed_all}
use Rattle.ice_exchanges.proofs.CallsLemmas.{setup_kept, stepped_held}

pub disturbed_same : (agent : Agent) (moments : List Moment) → (after_all agent moments).held.state ≡ disturbed agent.held.setup agent.held.state (timed_all agent moments)
disturbed_same agent [] = refl
disturbed_same agent (m ∷ earlier) =
    let before = after_all agent earlier in
    ap (λ (h : Held). h.state) (stepped_held before m.now m.fresh m.call)
    ∙ (λ i. (step (setup_kept agent earlier i) (disturbed_same agent earlier i) m.now (fresh_in m.fresh m.call) (event_in before m.call)).state)

pub held_is : (agent : Agent) (moments : List Moment) → (after_all agent moments).held ≡ record { setup = agent.held.setup; state = disturbed agent.held.setup agent.held.state (timed_all agent moments) }
held_is agent moments = λ i. record { setup = setup_kept agent moments i; state = disturbed_same agent moments i }
