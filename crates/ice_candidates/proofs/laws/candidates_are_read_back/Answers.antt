use Rattle.ice_candidates.proofs.TextLemmas.{text_is_line, written_read}
use Rattle.ice_candidates.proofs.laws.candidates_are_read_back.Goals as goal

pub returns-clause-line : goal.returns-clause-line
returns-clause-line c = text_is_line

pub returns-clause-read : goal.returns-clause-read
returns-clause-read c = written_read
