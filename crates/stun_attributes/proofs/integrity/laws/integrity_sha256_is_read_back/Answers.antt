use Rattle.std.proofs.Common.{◌≡◌, length}
use Rattle.stun_grammar.specs.declared.integrity_algorithm.IntegrityAlgorithm.TheVariants.{Sha256}
use Rattle.stun_grammar.specs.Verdicts.{hmac_fault}
use Rattle.stun_attributes.specs.Integrity.{sha256_hmac}
use Rattle.stun_attributes.proofs.IntegrityLemmas.{is_read, lawful_sha256}
use Rattle.stun_attributes.proofs.integrity.laws.integrity_sha256_is_read_back.Goals as goal

pub returns : goal.returns
returns c = λ attribute result least most four reported.
    is_read (hmac_fault Sha256 (length (sha256_hmac attribute))) (λ read. sha256_hmac read ≡ sha256_hmac attribute) result (lawful_sha256 (length (sha256_hmac attribute)) least most four) reported
