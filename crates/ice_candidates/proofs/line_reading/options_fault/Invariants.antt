use Rattle.std.proofs.Common.{◌≡◌, length}
use Rattle.ice_candidates.specs.Words.{words_of}
use Rattle.ice_candidates.specs.Lines.{options_fault}
use Rattle.ice_candidates.proofs.line_reading.options_fault.Given as goal

-- what is left has the fault of the whole
abbrev pub invariant-loop-left : goal.invariant-loop-left
invariant-loop-left l = options_fault (words_of l.left) ≡ options_fault (words_of l.fn.rest)

-- how many words are left
abbrev pub decreases-loop-left : goal.decreases-loop-left
decreases-loop-left l = length (words_of l.left)
