use Rattle.std.proofs.Common.{◌≡◌, ◌++◌, take, drop, map}
use Rattle.ice_machine.specs.declared.pairs.Pair.{Pair}
use Rattle.ice_machine.specs.Steps.{settled}
use Rattle.ice_agent_state.specs.Agents.{setup_of}
use Rattle.ice_agent_state.proofs.settling.settle_all.Given as goal

abbrev pub invariant-loop-i : goal.invariant-loop-i
invariant-loop-i l = l.pairs
    ≡ map {B = Pair} (settled (setup_of l.settings) l.now) (take l.i l.initial.pairs) ++ drop l.i l.initial.pairs
