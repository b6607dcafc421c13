use Rattle.std.proofs.Common.{◌≡◌, map, take}
use Rattle.ice_lite.specs.Agents.{LiteCandidate}
use Rattle.ice_lite.specs.Runs as runs
use Rattle.ice_lite.proofs.state.unselected.Given as goal

-- the bases so far, none with a selected pair
abbrev pub invariant-loop-base : goal.invariant-loop-base
invariant-loop-base l = l.all.items ≡ map {B = LiteCandidate} runs.unselected (take l.base-index l.bases)
