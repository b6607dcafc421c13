use Rattle.std.proofs.Common.{◌≡◌, ◌++◌, take, drop}
use Rattle.ice_machine.specs.Steps.{changed_first}
use Rattle.ice_agent_state.specs.Kept.{is_found, reported}
use Rattle.ice_agent_state.proofs.discoveries.mark_first.Given as goal

abbrev pub invariant-loop-i : goal.invariant-loop-i
invariant-loop-i l = record {
  same : l.addresses ≡ l.initial.addresses;
  so_far : changed_first is_found reported l.initial.addresses
      ≡ take l.i l.initial.addresses ++ changed_first is_found reported (drop l.i l.initial.addresses);
}
