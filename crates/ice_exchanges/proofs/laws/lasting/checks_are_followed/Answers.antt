use Rattle.std.proofs.Common.{◌≤◌, ◌<◌, ◌+◌, sym, subst}
use Rattle.ice_machine.specs.Lasting.{IsConsentedWay, IsElsewhere, IsTimely, watched}
use Rattle.ice_machine.specs.Meetings.{OneAmong}
use Rattle.ice_machine.specs.Steps.{at}
use Rattle.ice_agent_state.specs.Agents.{Held}
use Rattle.ice_agent.specs.Runs.{timed_all}
use Rattle.ice_exchanges.proofs.RunsLemmas.{held_is}
use Rattle.ice_exchanges.proofs.laws.lasting.checks_are_followed.Goals as goal

pub returns : goal.returns
returns c = λ agent e gap delay limit w moments now fit few has course.
    let events = timed_all agent moments in
    subst (λ (h : Held). h.state.clock ≤ now → IsTimely gap delay now (watched agent.held.setup e agent.held.state w events) → limit + delay < now
    → OneAmong (IsConsentedWay e now) (IsElsewhere e) (at h.setup now h.state).pairs)
    (sym (held_is agent moments)) (c.checks_are_followed.ensures agent.held.setup e gap delay limit agent.held.state w events now fit few has course)
