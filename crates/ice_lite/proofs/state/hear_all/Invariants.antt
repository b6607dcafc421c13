use Rattle.std.proofs.Common.{◌≡◌, ◌++◌, take, drop, map}
use Rattle.ice_lite.specs.Agents.{LiteCandidate}
use Rattle.ice_lite.specs.Steps.{heard}
use Rattle.ice_lite.proofs.state.hear_all.Given as goal

abbrev pub invariant-loop-i : goal.invariant-loop-i
invariant-loop-i l = l.candidates
    ≡ map {B = LiteCandidate} (heard l.component l.now l.check) (take l.i l.initial.candidates) ++ drop l.i l.initial.candidates
