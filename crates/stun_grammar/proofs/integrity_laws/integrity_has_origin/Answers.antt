use Rattle.stun_grammar.proofs.OriginLemmas.{origin, origin_through, origin_each}
use Rattle.stun_grammar.proofs.integrity_laws.integrity_has_origin.Goals as goal

pub returns-clause-origin : goal.returns-clause-origin
returns-clause-origin c = origin

pub returns-clause-with_key : goal.returns-clause-with_key
returns-clause-with_key c = origin_through

pub returns-clause-each : goal.returns-clause-each
returns-clause-each c = origin_each
