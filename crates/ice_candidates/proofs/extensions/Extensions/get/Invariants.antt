use Rattle.std.proofs.Common.{◌≡◌, length}
use Rattle.ice_candidates.specs.Views.{pairs, value_in}
use Rattle.ice_candidates.proofs.extensions.Extensions.get.Given as goal

-- what is left has the value of the whole
abbrev pub invariant-loop-found : goal.invariant-loop-found
invariant-loop-found l = value_in l.name (pairs l.left) ≡ value_in l.fn.name (pairs l.fn.self)

-- how many extensions are left
abbrev pub decreases-loop-found : goal.decreases-loop-found
decreases-loop-found l = length (pairs l.left)
