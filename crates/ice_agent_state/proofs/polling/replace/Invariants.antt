use Rattle.std.proofs.Common.{◌≡◌, ◌++◌, take, drop}
use Rattle.ice_machine.specs.Agents.{is_at}
use Rattle.ice_machine.specs.Steps.{changed_first}
use Rattle.ice_agent_state.proofs.polling.replace.Given as goal

abbrev pub invariant-loop-i : goal.invariant-loop-i
invariant-loop-i l = record {
  same : l.pairs ≡ l.initial.pairs;
  so_far : changed_first (is_at l.base l.remote) (λ _. l.pair) l.initial.pairs
      ≡ take l.i l.initial.pairs ++ changed_first (is_at l.base l.remote) (λ _. l.pair) (drop l.i l.initial.pairs);
}
