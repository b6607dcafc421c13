use Rattle.std.proofs.Common.{◌≡◌, ◌≤◌, length, drop}
use Rattle.std.specs.Prelude.{option_map}
use Rattle.ice_machine.specs.Pairs.{best, selection_score}
use Rattle.ice_agent_state.specs.Best.{scored}
use Rattle.ice_agent_state.proofs.agent.AgentState.selected.Given as goal

abbrev pub invariant-loop-at : goal.invariant-loop-at
invariant-loop-at l = record {
  within : l.at ≤ length l.self.state.pairs;
  so_far : l.best ≡ option_map (scored (selection_score l.self.state.role l.component))
      (best (selection_score l.self.state.role l.component) (drop l.at l.self.state.pairs));
}

abbrev pub decreases-loop-at : goal.decreases-loop-at
decreases-loop-at l = l.at
