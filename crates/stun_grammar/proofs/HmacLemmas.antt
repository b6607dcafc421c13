-- How many bytes an HMAC has.
use Rattle.std.proofs.Common.{◌≡◌, ℕ, zero, suc, ◌*◌, List, length, slice_index, refl, length-append, arith}
use Rattle.std.specs.Int.{w32, to_be_bytes}
use Rattle.sha1.specs.Sha1.{sha1, digest_bytes as sha1_bytes}
use Rattle.sha2.specs.Sha256.{sha256, digest_bytes as sha256_bytes}
use Rattle.stun_grammar.specs.Hmac.{hmac, hmac_over, digest_of, digest_length}
use Rattle.stun_grammar.specs.declared.integrity_algorithm.IntegrityAlgorithm.{IntegrityAlgorithm}
use Rattle.stun_grammar.specs.declared.integrity_algorithm.IntegrityAlgorithm.TheVariants.{Sha1, Sha256}

-- ---- The words of a hash value

length-sha1_bytes : (h : List ℕ) (n : ℕ) → length (sha1_bytes h n) ≡ 4 * n
unfolding sha1_bytes
length-sha1_bytes h zero = refl
length-sha1_bytes h (suc n) = omega (arith, length-append (sha1_bytes h n) (to_be_bytes w32 (slice_index h n)), length-sha1_bytes h n)

length-sha256_bytes : (h : List ℕ) (n : ℕ) → length (sha256_bytes h n) ≡ 4 * n
unfolding sha256_bytes
length-sha256_bytes h zero = refl
length-sha256_bytes h (suc n) = omega (arith, length-append (sha256_bytes h n) (to_be_bytes w32 (slice_index h n)), length-sha256_bytes h n)

-- ---- A digest

pub digest_has_length : (algorithm : IntegrityAlgorithm) (text : List ℕ) → length (digest_of algorithm text) ≡ digest_length algorithm
unfolding sha1 sha256
digest_has_length Sha1 text = length-sha1_bytes _ 5
digest_has_length Sha256 text = length-sha256_bytes _ 8

-- ---- An HMAC

pub hmac_has_length : (algorithm : IntegrityAlgorithm) (key text : List ℕ) → length (hmac algorithm key text) ≡ digest_length algorithm
unfolding hmac hmac_over
hmac_has_length algorithm key text = digest_has_length algorithm _
