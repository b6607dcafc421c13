use Rattle.stun_types.proofs.RunsAgreeLemmas.{agree, agree_all}
use Rattle.stun_types.proofs.writing.laws.writers_agree.Goals as goal

pub returns-clause-same : goal.returns-clause-same
returns-clause-same g c = agree

pub returns-clause-all : goal.returns-clause-all
returns-clause-all g c = agree_all
