use Rattle.std.proofs.Common.{sym, ◌∙◌}
use Rattle.ice_agent_state.proofs.WakingLemmas.{chosen_by}
use Rattle.ice_agent_state.proofs.agent.AgentState.choice_of.Goals as goal

pub returns-then-waits_for_better : goal.returns-then-waits_for_better
returns-then-waits_for_better c = chosen_by c.args.self.now.setup c.args.self.now.state c.args.pair.now c.first_patience_end.result
    (sym c.is_controlling.ensures ∙ c.if-not-is_controlling.false) (sym c.is_succeeded.ensures ∙ c.if-not-is_succeeded.false) (sym c.is_named.ensures ∙ c.if-is_named.false)
    (sym c.waits_for_better.ensures ∙ c.if-waits_for_better.true) c.first_patience_end.ensures
