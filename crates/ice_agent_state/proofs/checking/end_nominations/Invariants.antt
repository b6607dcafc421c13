use Rattle.std.proofs.Common.{◌≡◌, ◌++◌, take, drop, map}
use Rattle.ice_machine.specs.declared.pairs.Pair.{Pair}
use Rattle.ice_machine.specs.Steps.{unnominated}
use Rattle.ice_agent_state.proofs.checking.end_nominations.Given as goal

abbrev pub invariant-loop-i : goal.invariant-loop-i
invariant-loop-i l = l.pairs
    ≡ map {B = Pair} unnominated (take l.i l.initial.pairs) ++ drop l.i l.initial.pairs
