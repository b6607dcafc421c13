use Rattle.std.proofs.Common.{◌≡◌, ℕ, ◌<◌, max, ap, ◌∙◌, subst}
use Rattle.ice_machine.specs.Agents.{State}
use Rattle.ice_machine.specs.Steps.{at}
use Rattle.ice_agent_state.specs.Agents.{Held}
use Rattle.ice_agent_state.proofs.HeldLemmas.{spelled}
use Rattle.ice_agent_state.proofs.QuietLemmas.{at_quiet}
use Rattle.ice_agent_state.proofs.agent.AgentState.advance.Goals as goal

pub returns-then-clock-self : goal.returns-then-clock-self
returns-then-clock-self c =
    let held = spelled c.self.view_is in
    let before : max held.state.clock c.args.now < c.self.inside.quiet_until = subst (λ (n : ℕ). n < c.self.inside.quiet_until) c.max-clock.ensures c.if-clock-self.true in
    subst (λ (z : Held). record held { state = record held.state { clock = c.max-clock.result } } ≡ record z { state = at z.setup c.args.now z.state }) c.self.view_is
    (ap (λ (n : ℕ). record held { state = record held.state { clock = n } }) c.max-clock.ensures
    ∙ ap (λ (s : State). record held { state = s }) (at_quiet held.setup c.args.now c.self.inside.quiet_until held.state before c.self.invariant.steady c.self.invariant.awaited))
