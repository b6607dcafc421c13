use Rattle.std.proofs.Common.{◌≤◌, length, drop}
use Rattle.std.specs.List.{AllByRecursion}
use Rattle.ice_agent_state.specs.Quiet.{StaysAwaited}
use Rattle.ice_agent_state.proofs.settling.waited_until.Given as goal

abbrev pub invariant-loop-at : goal.invariant-loop-at
invariant-loop-at l = record {
  within : l.at ≤ length l.requests;
  so_far : AllByRecursion (StaysAwaited l.until) (drop l.at l.requests);
}

abbrev pub decreases-loop-at : goal.decreases-loop-at
decreases-loop-at l = l.at
