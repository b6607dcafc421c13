use Rattle.std.proofs.Common.{sym, ap, subst}
use Rattle.ice_machine.specs.Runs.{history}
use Rattle.ice_machine.specs.Steps.{at}
use Rattle.ice_machine.specs.Warrants.{IsRight}
use Rattle.ice_agent_state.specs.Agents.{Held, output_at}
use Rattle.ice_agent.specs.Runs.{after_all, event_in, fresh_in, timed_all}
use Rattle.ice_agent.proofs.RunsLemmas.{held_run}
use Rattle.ice_agent.proofs.laws.datagrams_are_warranted.Goals as goal

pub returns-clause-state : goal.returns-clause-state
returns-clause-state c begin agent moments begun = ap (λ (h : Held). h.state) (held_run begin agent moments begun)

pub returns-clause-right : goal.returns-clause-right
returns-clause-right c begin agent earlier now fresh call begun =
    let setup = agent.held.setup in
    let before = after_all agent earlier in
    let event = event_in before call in
    subst (λ (h : Held). IsRight (history setup begin (timed_all agent earlier)) (at setup now h.state).clock event (output_at now (fresh_in fresh call) event h))
    (sym (held_run begin agent earlier begun))
    (c.sending_is_warranted.ensures setup begin (timed_all agent earlier) (record { now = now; fresh = fresh_in fresh call; event = event }))
