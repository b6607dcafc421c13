use Rattle.std.proofs.Common.{◌≡◌, ℕ, ◌<◌, ◌^◌, Option, ap, ◌∙◌, sym, subst}
use Rattle.ice_agent_state.specs.Waking.{IsNextWake, sooner, wake_of}
use Rattle.ice_agent_state.proofs.WakingLemmas.{next_wake_is}
use Rattle.ice_agent_state.proofs.agent.AgentState.next_wake.Goals as goal

pub returns : goal.returns
returns c =
    let held = c.args.self.now in
    let clock_is = c.latest.ensures.value in
    let bound = c.latest.ensures.bound in
    let is : c.in_time.result ≡ wake_of held.state.clock (sooner c.first_loss-loss.result c.first_request-request.result) =
    c.in_time.ensures ∙ ap (λ (n : ℕ). wake_of n c.sooner.result) clock_is ∙ ap (λ (o : Option ℕ). wake_of held.state.clock o) c.sooner.ensures in
    subst (λ (o : Option ℕ). IsNextWake held o) (sym is)
    (next_wake_is held c.first_loss-loss.result c.first_request-request.result (subst (λ (n : ℕ). n < 2 ^ 64) clock_is bound) c.first_loss-loss.ensures c.first_request-request.ensures)
