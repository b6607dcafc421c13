use Rattle.std.proofs.Common.{◌≡◌, ◌≤◌, Some, sym, subst}
use Rattle.ice_machine.specs.declared.pairs.Pair.{Pair}
use Rattle.ice_machine.specs.Events.{data_to, sends}
use Rattle.ice_machine.specs.Lasting.{IsTimely, watched}
use Rattle.ice_machine.specs.Pairs.{selected}
use Rattle.ice_machine.specs.Steps.{at}
use Rattle.ice_agent_state.specs.Agents.{Held, output_at}
use Rattle.ice_agent.specs.Runs.{timed_all}
use Rattle.ice_exchanges.proofs.RunsLemmas.{held_is}
use Rattle.ice_exchanges.proofs.laws.lasting.consent_lasts.Goals as goal

pub returns : goal.returns
returns c = λ agent e gap delay w moments now fresh bytes few has course.
    let events = timed_all agent moments in
    subst (λ (h : Held). h.state.clock ≤ now → IsTimely gap delay now (watched agent.held.setup e agent.held.state w events)
    → (p : Pair) × (selected e.component (at h.setup now h.state) ≡ Some p) × (output_at now fresh (sends e.component bytes) h ≡ data_to p.base p.remote bytes))
    (sym (held_is agent moments)) (c.consent_lasts.ensures.data agent.held.setup e gap delay agent.held.state w events now fresh bytes few has course)
