use Rattle.std.proofs.Common.{◌≤◌, length, drop}
use Rattle.ice_agent_state.specs.Waking.{HoldsFrom, some_by, ends_by}
use Rattle.ice_agent_state.proofs.agent.AgentState.first_loss.Given as goal

abbrev pub invariant-loop-at : goal.invariant-loop-at
invariant-loop-at l = record {
  within : l.at ≤ length l.self.state.pairs;
  so_far : HoldsFrom (some_by (ends_by l.self.setup) (drop l.at l.self.state.pairs)) l.first;
}

abbrev pub decreases-loop-at : goal.decreases-loop-at
decreases-loop-at l = l.at
