use Rattle.std.proofs.Common.{◌≡◌, ◌≤◌, length, drop}
use Rattle.std.specs.Prelude.{option_map}
use Rattle.ice_machine.specs.Pairs.{best}
use Rattle.ice_machine.specs.Checks.{score}
use Rattle.ice_agent_state.specs.Best.{scored, IsStanding}
use Rattle.ice_agent_state.proofs.agent.AgentState.most_urgent.Given as goal

abbrev pub invariant-loop-at : goal.invariant-loop-at
invariant-loop-at l = record {
  within : l.at ≤ length l.self.state.pairs;
  so_far : l.best ≡ option_map (scored (score l.self.setup l.self.state))
      (best (score l.self.setup l.self.state) (drop l.at l.self.state.pairs));
  known : IsStanding l.self l.standing.number l.standing;
}

abbrev pub decreases-loop-at : goal.decreases-loop-at
decreases-loop-at l = l.at
