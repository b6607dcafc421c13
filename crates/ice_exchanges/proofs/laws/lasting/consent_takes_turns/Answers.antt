use Rattle.std.proofs.Common.{ℕ, ◌≤◌, ◌<◌, ◌+◌, ◌^◌, sym, ap, subst}
use Rattle.ice_machine.specs.Agents.{State, seconds}
use Rattle.ice_machine.specs.Fairness.{HasAsked, HasDue, turns}
use Rattle.ice_machine.specs.Meetings.{disturbed}
use Rattle.ice_agent_state.specs.Agents.{Held}
use Rattle.ice_agent.specs.Runs.{after_all, timed_all}
use Rattle.ice_exchanges.proofs.CallsLemmas.{setup_kept}
use Rattle.ice_exchanges.proofs.RunsLemmas.{disturbed_same}
use Rattle.ice_exchanges.proofs.WorksLemmas.{asked_counts}
use Rattle.ice_exchanges.proofs.laws.lasting.consent_takes_turns.Goals as goal

pub returns-clause-served : goal.returns-clause-served
returns-clause-served c = λ agent e due moments distinct begun has soon small few.
    let s = agent.held.state in
    let events = timed_all agent moments in
    asked_counts e.base e.to agent moments
    (subst (λ (n : ℕ). HasDue e due n s → n < s.clock + seconds 30 → n < 2 ^ 64 → HasAsked agent.held.setup e.base e.to s events)
    (sym (ap (λ (t : State). t.clock) (disturbed_same agent moments)))
    (λ had sooner smaller. c.consent_takes_turns.ensures.served agent.held.setup e due s events distinct begun had sooner smaller few) has soon small)

pub returns-clause-bounded : goal.returns-clause-bounded
returns-clause-bounded c = λ begin begun earlier moments e due is past has soon small few.
    let agent = after_all begun earlier in
    let s = agent.held.state in
    let events = timed_all agent moments in
    let law : due ≤ s.clock → HasDue e due (disturbed agent.held.setup s events).clock s → (disturbed agent.held.setup s events).clock < s.clock + seconds 30 → (disturbed agent.held.setup s events).clock < 2 ^ 64
    → agent.held.setup.most_pairs ≤ turns agent.held.setup s events → HasAsked agent.held.setup e.base e.to s events =
    subst (λ (h : Held). due ≤ h.state.clock → HasDue e due (disturbed h.setup h.state events).clock h.state → (disturbed h.setup h.state events).clock < h.state.clock + seconds 30 → (disturbed h.setup h.state events).clock < 2 ^ 64
    → h.setup.most_pairs ≤ turns h.setup h.state events → HasAsked h.setup e.base e.to h.state events)
    (sym (λ i. record { setup = setup_kept begun earlier i; state = c.datagrams_are_warranted.ensures.state begin begun earlier is i }))
    (c.consent_takes_turns.ensures.bounded begun.held.setup begin (timed_all begun earlier) events e due) in
    asked_counts e.base e.to agent moments
    (subst (λ (n : ℕ). HasDue e due n s → n < s.clock + seconds 30 → n < 2 ^ 64 → HasAsked agent.held.setup e.base e.to s events)
    (sym (ap (λ (t : State). t.clock) (disturbed_same agent moments)))
    (λ had sooner smaller. law past had sooner smaller few) has soon small)
