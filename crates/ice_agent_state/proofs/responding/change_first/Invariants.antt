use Rattle.std.proofs.Common.{◌≡◌, ◌++◌, take, drop}
use Rattle.ice_machine.specs.Agents.{is_at}
use Rattle.ice_machine.specs.Steps.{changed_first}
use Rattle.ice_agent_state.specs.Changes.{changed_by}
use Rattle.ice_agent_state.proofs.responding.change_first.Given as goal

abbrev pub invariant-loop-i : goal.invariant-loop-i
invariant-loop-i l = record {
  same : l.pairs ≡ l.initial.pairs;
  so_far : changed_first (is_at l.base l.to) (changed_by l.by) l.initial.pairs
      ≡ take l.i l.initial.pairs ++ changed_first (is_at l.base l.to) (changed_by l.by) (drop l.i l.initial.pairs);
}
