use Rattle.stun_grammar.specs.declared.integrity_algorithm.IntegrityAlgorithm.TheVariants.{Sha1, Sha256}
use Rattle.stun_types.proofs.IntegrityAtLemmas.{kept_shown}
use Rattle.stun_types.proofs.reading.offsets.IntegrityOffsets.of.Goals as goal

pub returns-in-Sha1 : goal.returns-in-Sha1
returns-in-Sha1 c = λ d keeps. rw c.in-Sha1.is (kept_shown Sha1 d c.args.self.now.integrity keeps.integrity)

pub returns-in-Sha256 : goal.returns-in-Sha256
returns-in-Sha256 c = λ d keeps. rw c.in-Sha256.is (kept_shown Sha256 d c.args.self.now.sha256 keeps.sha256)
