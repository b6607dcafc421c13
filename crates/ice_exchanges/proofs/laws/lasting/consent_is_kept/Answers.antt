use Rattle.std.proofs.Common.{◌≤◌, sym, subst}
use Rattle.ice_machine.specs.Fairness.{IsPunctual, valid_pairs}
use Rattle.ice_machine.specs.Lasting.{IsConsentedWay, IsElsewhere}
use Rattle.ice_machine.specs.Meetings.{OneAmong}
use Rattle.ice_machine.specs.Steps.{at}
use Rattle.ice_agent_state.specs.Agents.{Held}
use Rattle.ice_agent.specs.Runs.{timed_all}
use Rattle.ice_exchanges.proofs.RunsLemmas.{held_is}
use Rattle.ice_exchanges.proofs.laws.lasting.consent_is_kept.Goals as goal

pub returns : goal.returns
returns c = λ agent e n gap delay moments now fit few distinct has course.
    let events = timed_all agent moments in
    subst (λ (h : Held). h.state.clock ≤ now → valid_pairs h.state.pairs ≤ n → IsPunctual agent.held.setup e n gap delay agent.held.state events now
    → OneAmong (IsConsentedWay e now) (IsElsewhere e) (at h.setup now h.state).pairs)
    (sym (held_is agent moments)) (c.consent_is_kept.ensures.kept agent.held.setup e n gap delay agent.held.state events now fit few distinct has course)
