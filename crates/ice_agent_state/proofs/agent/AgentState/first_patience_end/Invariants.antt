use Rattle.std.proofs.Common.{◌≤◌, length, drop}
use Rattle.ice_agent_state.specs.Waking.{HoldsFrom, some_by, is_long_valid_by}
use Rattle.ice_agent_state.proofs.agent.AgentState.first_patience_end.Given as goal

abbrev pub invariant-loop-at : goal.invariant-loop-at
invariant-loop-at l = record {
  within : l.at ≤ length l.self.state.pairs;
  so_far : HoldsFrom (some_by (is_long_valid_by l.self.setup l.self.state l.pair) (drop l.at l.self.state.pairs)) l.first;
}

abbrev pub decreases-loop-at : goal.decreases-loop-at
decreases-loop-at l = l.at
