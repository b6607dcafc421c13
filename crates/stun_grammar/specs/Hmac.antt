-- HMAC over SHA-1 and SHA-256 (RFC 2104).
use Rattle.std.specs.Prelude.{ℕ, ◌-◌, List, ◌++◌, length, map, replicate, bit_xor, nat_lt, if◌then◌else◌}
use Rattle.sha1.specs.Sha1.{sha1}
use Rattle.sha2.specs.Sha256.{sha256}
use Rattle.stun_grammar.specs.declared.integrity_algorithm.IntegrityAlgorithm.{IntegrityAlgorithm}
use Rattle.stun_grammar.specs.declared.integrity_algorithm.IntegrityAlgorithm.TheVariants.{Sha1, Sha256}

-- the digest of an algorithm
abbrev pub digest_of : IntegrityAlgorithm → List ℕ → List ℕ
digest_of Sha1 = sha1
digest_of Sha256 = sha256

-- how many bytes that digest has
abbrev pub digest_length : IntegrityAlgorithm → ℕ
digest_length Sha1 = 20
digest_length Sha256 = 32

-- a key as one block of 64 bytes: a longer key is digested, and then zeros fill it up
abbrev pub block_of_key : (List ℕ → List ℕ) → List ℕ → List ℕ
block_of_key digest key =
    if nat_lt 64 (length key) then digest key ++ replicate (64 - length (digest key)) 0
    else key ++ replicate (64 - length key) 0

-- a block with each byte XORed with a pad
abbrev pub padded_with : ℕ → List ℕ → List ℕ
padded_with pad block = map (λ byte. bit_xor byte pad) block

-- HMAC over a digest: the inner block and the data are digested, then the outer block and that
-- digest
unfoldable pub hmac_over : (List ℕ → List ℕ) → List ℕ → List ℕ → List ℕ
hmac_over digest key text =
    let block = block_of_key digest key in
    digest (padded_with 0x5C block ++ digest (padded_with 0x36 block ++ text))

-- the HMAC of bytes under a key
unfoldable pub hmac : IntegrityAlgorithm → List ℕ → List ℕ → List ℕ
hmac algorithm key text = hmac_over (digest_of algorithm) key text
