use Rattle.ice_candidates.proofs.LineLemmas.{line_read, read_line_is}
use Rattle.ice_candidates.proofs.laws.lines_are_of_candidates.Goals as goal

pub returns-clause-read : goal.returns-clause-read
returns-clause-read c = line_read

pub returns-clause-only : goal.returns-clause-only
returns-clause-only c = read_line_is
