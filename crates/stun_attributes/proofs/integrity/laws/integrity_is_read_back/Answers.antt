use Rattle.std.proofs.Common.{◌≡◌, length}
use Rattle.stun_grammar.specs.declared.integrity_algorithm.IntegrityAlgorithm.TheVariants.{Sha1}
use Rattle.stun_grammar.specs.Verdicts.{hmac_fault}
use Rattle.stun_attributes.specs.Integrity.{sha1_hmac}
use Rattle.stun_attributes.proofs.IntegrityLemmas.{is_read, lawful_sha1}
use Rattle.stun_attributes.proofs.integrity.laws.integrity_is_read_back.Goals as goal

pub returns : goal.returns
returns c = λ attribute result long reported.
    is_read (hmac_fault Sha1 (length (sha1_hmac attribute))) (λ read. sha1_hmac read ≡ sha1_hmac attribute) result (lawful_sha1 (length (sha1_hmac attribute)) long) reported
