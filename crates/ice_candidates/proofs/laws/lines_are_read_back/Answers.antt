use Rattle.ice_candidates.proofs.LinesLemmas.{attribute_again}
use Rattle.ice_candidates.proofs.laws.lines_are_read_back.Goals as goal

pub returns : goal.returns
returns c = attribute_again
