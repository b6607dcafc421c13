use Rattle.ice_candidates.proofs.RangeLemmas.{gives_line, gives_only, gives_range}
use Rattle.ice_candidates.proofs.candidate.Candidate.from_line.Goals as goal

pub returns-clause-line : goal.returns-clause-line
returns-clause-line c = gives_line c.args.line.now c.read_candidate.result c.read_candidate.ensures

pub returns-clause-only : goal.returns-clause-only
returns-clause-only c = gives_only c.args.line.now c.read_candidate.result c.read_candidate.ensures

pub returns-clause-ranges : goal.returns-clause-ranges
returns-clause-ranges c = gives_range c.args.line.now c.read_candidate.result c.read_candidate.ensures
