use Rattle.stun_types.proofs.ResumedLemmas.{goes_on}
use Rattle.stun_types.proofs.writing.laws.appended_resumes.Goals as goal

pub returns : goal.returns
returns c = goes_on
