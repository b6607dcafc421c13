use Rattle.stun_grammar.specs.declared.integrity_algorithm.IntegrityAlgorithm.TheVariants.{Sha1, Sha256}
use Rattle.stun_types.proofs.IntegrityAtLemmas.{walk_at, read_there, last_is_either, first_of_algorithm}
use Rattle.stun_types.proofs.reading.laws.walks_from_there.Goals as goal

pub returns-clause-walk : goal.returns-clause-walk
returns-clause-walk c = walk_at

pub returns-clause-read : goal.returns-clause-read
returns-clause-read c = read_there

pub returns-clause-last : goal.returns-clause-last
returns-clause-last c = last_is_either

pub returns-clause-once : goal.returns-clause-once
returns-clause-once c = λ d. (first_of_algorithm Sha1 d, first_of_algorithm Sha256 d)
