use Rattle.stun_framing.proofs.ResumingLemmas.{resumes, comes, goes_on}
use Rattle.stun_framing.proofs.laws.resuming_changes_nothing.Goals as goal

pub returns-clause-resumes : goal.returns-clause-resumes
returns-clause-resumes c = resumes

pub returns-clause-comes : goal.returns-clause-comes
returns-clause-comes c = comes

pub returns-clause-goes_on : goal.returns-clause-goes_on
returns-clause-goes_on c = goes_on
