use Rattle.stun_grammar.proofs.StepsSignedLemmas.{given_signs}
use Rattle.stun_grammar.proofs.OriginLemmas.{given_counts}
use Rattle.stun_grammar.proofs.integrity_laws.given_hmac_signs.Goals as goal

pub returns-clause-appends : goal.returns-clause-appends
returns-clause-appends c = given_signs

pub returns-clause-counts : goal.returns-clause-counts
returns-clause-counts c = given_counts
