-- The attributes that protect a message: MESSAGE-INTEGRITY, MESSAGE-INTEGRITY-SHA256 and
-- FINGERPRINT (RFC 8489, sections 14.5, 14.6 and 14.7).
use Rattle.std.specs.Prelude.{◌≡◌, ℕ, ◌<◌, List, length, take, Result, Err, IsOkAnd, MatchOption}
use Rattle.stun_grammar.specs.declared.error.StunParseError.{StunParseError}
use Rattle.stun_grammar.specs.declared.error.StunWriteError.{StunWriteError}
use Rattle.stun_grammar.specs.declared.integrity_algorithm.IntegrityAlgorithm.TheVariants.{Sha1, Sha256}
use Rattle.stun_grammar.specs.WriteErrors.{write_error}
use Rattle.stun_grammar.specs.Lengths.{exact_fault}
use Rattle.stun_grammar.specs.Verdicts.{hmac_fault}
use Rattle.stun_values.specs.FingerprintValues.{masked_bytes}
use Rattle.stun_attributes.specs.Reading.{Reads}
use Rattle.stun_attributes.specs.declared.integrity.fingerprint.Fingerprint.{Fingerprint}
use Rattle.stun_attributes.specs.declared.integrity.message_integrity.MessageIntegrity.{MessageIntegrity}
use Rattle.stun_attributes.specs.declared.integrity.message_integrity_sha256.MessageIntegritySha256.{MessageIntegritySha256}

-- ---- What the attributes hold

-- the checksum of a FINGERPRINT, four bytes, not XORed
abbrev pub checksum_bytes : Fingerprint → List ℕ
checksum_bytes attribute = attribute.fingerprint

-- the HMAC of a MESSAGE-INTEGRITY
abbrev pub sha1_hmac : MessageIntegrity → List ℕ
sha1_hmac attribute = attribute.hmac

-- the HMAC of a MESSAGE-INTEGRITY-SHA256, or the prefix of it that the attribute holds
abbrev pub sha256_hmac : MessageIntegritySha256 → List ℕ
sha256_hmac attribute = take attribute.count attribute.bytes

-- a nonempty prefix
abbrev pub IsPrefixOf : (prefix whole : List ℕ) → Type 0
IsPrefixOf prefix whole = (0 < length prefix) × (prefix ≡ take (length prefix) whole)

-- ---- What making a MESSAGE-INTEGRITY-SHA256 returns: making follows the same rule as reading

abbrev pub MakesSha256 : List ℕ → Result MessageIntegritySha256 StunWriteError → Type 0
MakesSha256 hmac result =
    MatchOption (hmac_fault Sha256 (length hmac))
    (IsOkAnd result (λ made. sha256_hmac made ≡ hmac))
    (λ e. result ≡ Err (write_error e))

-- ---- What reading a value returns: the fault, or the attribute if there is none

abbrev pub ReadsFingerprint : List ℕ → Result Fingerprint StunParseError → Type 0
ReadsFingerprint value =
    Reads (exact_fault 4 (length value)) (λ read. checksum_bytes read ≡ masked_bytes value)

abbrev pub ReadsIntegrity : List ℕ → Result MessageIntegrity StunParseError → Type 0
ReadsIntegrity value = Reads (hmac_fault Sha1 (length value)) (λ read. sha1_hmac read ≡ value)

abbrev pub ReadsIntegritySha256 : List ℕ → Result MessageIntegritySha256 StunParseError → Type 0
ReadsIntegritySha256 value =
    Reads (hmac_fault Sha256 (length value)) (λ read. sha256_hmac read ≡ value)
