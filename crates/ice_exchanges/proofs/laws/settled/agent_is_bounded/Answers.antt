use Rattle.std.proofs.Common.{ℕ, ◌≤◌, ◌+◌, ◌*◌, sym, subst}
use Rattle.ice_machine.specs.Agents.{State, pace}
use Rattle.ice_machine.specs.Bounds.{AreDistinct, IsWithin, requests_sent as all_requests}
use Rattle.ice_machine.specs.Runs.{history}
use Rattle.ice_agent.specs.Runs.{after_all, timed_all}
use Rattle.ice_exchanges.proofs.CallsLemmas.{all_requests_same}
use Rattle.ice_exchanges.proofs.laws.settled.agent_is_bounded.Goals as goal

pub returns-clause-kept : goal.returns-clause-kept
returns-clause-kept c = λ begin agent moments begun.
    subst (λ (s : State). IsWithin agent.held.setup s) (sym (c.datagrams_are_warranted.ensures.state begin agent moments begun)) (c.agent_is_bounded.ensures.kept agent.held.setup begin (timed_all agent moments))

pub returns-clause-distinct : goal.returns-clause-distinct
returns-clause-distinct c = λ begin agent moments begun.
    subst (λ (s : State). AreDistinct s.pairs) (sym (c.datagrams_are_warranted.ensures.state begin agent moments begun)) (c.agent_is_bounded.ensures.distinct agent.held.setup begin (timed_all agent moments))

pub returns-clause-rate : goal.returns-clause-rate
returns-clause-rate c = λ begin agent moments begun.
    let setup = agent.held.setup in
    subst (λ (n : ℕ). n * pace setup ≤ (after_all agent moments).held.state.clock + pace setup) (sym (all_requests_same c.datagrams_are_warranted.ensures.state begin agent moments begun))
    (subst (λ (s : State). all_requests (history setup begin (timed_all agent moments)) * pace setup ≤ s.clock + pace setup) (sym (c.datagrams_are_warranted.ensures.state begin agent moments begun))
    (c.agent_is_bounded.ensures.rate setup begin (timed_all agent moments)))
