use Rattle.std.proofs.Common.{◌≡◌, List, ℕ, length, refl, subst}
use Rattle.std.specs.Prelude.{IsOkAnd}
use Rattle.stun_grammar.specs.declared.integrity_algorithm.IntegrityAlgorithm.TheVariants.{Sha1, Sha256}
use Rattle.stun_grammar.specs.AttributeTypes.{MESSAGE_INTEGRITY, MESSAGE_INTEGRITY_SHA256, FINGERPRINT, USERHASH}
use Rattle.stun_grammar.specs.Verdicts.{hmac_fault}
use Rattle.stun_values.specs.FingerprintValues.{masked_bytes}
use Rattle.stun_attributes.proofs.WireReadBackLemmas.{own_value}
use Rattle.stun_attributes.specs.Integrity.{checksum_bytes, sha1_hmac, sha256_hmac, ReadsFingerprint, ReadsIntegrity, ReadsIntegritySha256}
use Rattle.stun_attributes.specs.Userhash.{hash_bytes, ReadsUserhash}
use Rattle.stun_attributes.proofs.IntegrityLemmas.{exact_read, is_read, lawful_sha1, lawful_sha256, masked_twice}
use Rattle.stun_attributes.proofs.integrity.laws.integrity_types_are_read_back.Goals as goal

pub returns-clause-message_integrity : goal.returns-clause-message_integrity
returns-clause-message_integrity c = λ attribute long result reported.
    is_read (hmac_fault Sha1 (length (sha1_hmac attribute))) (λ read. sha1_hmac read ≡ sha1_hmac attribute) result
    (lawful_sha1 (length (sha1_hmac attribute)) long) (own_value MESSAGE_INTEGRITY ReadsIntegrity (sha1_hmac attribute) result reported)

pub returns-clause-message_integrity_sha256 : goal.returns-clause-message_integrity_sha256
returns-clause-message_integrity_sha256 c = λ attribute least most four result reported.
    is_read (hmac_fault Sha256 (length (sha256_hmac attribute))) (λ read. sha256_hmac read ≡ sha256_hmac attribute) result
    (lawful_sha256 (length (sha256_hmac attribute)) least most four) (own_value MESSAGE_INTEGRITY_SHA256 ReadsIntegritySha256 (sha256_hmac attribute) result reported)

pub returns-clause-fingerprint : goal.returns-clause-fingerprint
returns-clause-fingerprint c = λ attribute long bytes result reported.
    let value = masked_bytes (checksum_bytes attribute) in
    subst (λ (b : List ℕ). IsOkAnd result (λ read. checksum_bytes read ≡ b)) (masked_twice (checksum_bytes attribute) long bytes)
    (exact_read 4 value (λ read. checksum_bytes read ≡ masked_bytes value) result refl (own_value FINGERPRINT ReadsFingerprint value result reported))

pub returns-clause-userhash : goal.returns-clause-userhash
returns-clause-userhash c = λ attribute long result reported.
    exact_read 32 (hash_bytes attribute) (λ read. hash_bytes read ≡ hash_bytes attribute) result long (own_value USERHASH ReadsUserhash (hash_bytes attribute) result reported)
