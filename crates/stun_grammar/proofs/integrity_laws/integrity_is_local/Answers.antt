use Rattle.stun_grammar.proofs.AuthenticContentLemmas.{local, verdict_local, fingerprint_reported, all_reported, same_reported, same_shown}
use Rattle.stun_grammar.proofs.integrity_laws.integrity_is_local.Goals as goal

pub returns-clause-reported : goal.returns-clause-reported
returns-clause-reported c = local

pub returns-clause-verdict : goal.returns-clause-verdict
returns-clause-verdict c = verdict_local

pub returns-clause-fingerprint : goal.returns-clause-fingerprint
returns-clause-fingerprint c = fingerprint_reported

pub returns-clause-whole : goal.returns-clause-whole
returns-clause-whole c = all_reported

pub returns-clause-same : goal.returns-clause-same
returns-clause-same c = same_reported

pub returns-clause-same_shown : goal.returns-clause-same_shown
returns-clause-same_shown c = same_shown
