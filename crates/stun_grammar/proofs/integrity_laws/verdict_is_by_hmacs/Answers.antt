use Rattle.stun_grammar.proofs.VerdictsLemmas.{verdict_keyed, verdict_given}
use Rattle.stun_grammar.proofs.integrity_laws.verdict_is_by_hmacs.Goals as goal

pub returns-clause-keyed : goal.returns-clause-keyed
returns-clause-keyed c = verdict_keyed

pub returns-clause-given : goal.returns-clause-given
returns-clause-given c = verdict_given
