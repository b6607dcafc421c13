-- A key and its ready blocks, taken apart.
use Rattle.std.proofs.Common.{◌≡◌, ℕ, ◌-◌, ◌≤◌, Bool, true, false, List, [], ◌++◌, length, take, drop, replicate, refl, sym, ap, ◌∙◌, arith, length-append, append-nil}
use Rattle.std.specs.Prelude.{nat_lt, bit_xor}
use Rattle.std.proofs.lemmas.Bool.{ltb-false}
use Rattle.std.proofs.lemmas.List.{length-map, length-replicate, take_at, drop_at}
use Rattle.sha1.specs.Sha1.{sha1}
use Rattle.sha2.specs.Sha256.{sha256}
use Rattle.stun_grammar.specs.declared.integrity_algorithm.IntegrityAlgorithm.{IntegrityAlgorithm}
use Rattle.stun_grammar.specs.declared.integrity_algorithm.IntegrityAlgorithm.TheVariants.{Sha1, Sha256}
use Rattle.stun_grammar.specs.Hmac.{digest_of, block_of_key, padded_with, hmac, hmac_over}
use Rattle.stun_grammar.proofs.HmacLemmas.{digest_has_length}
use Rattle.stun_keys.specs.Blocks.{blocks_over, ready_blocks, key_in}

-- ---- How many bytes there are

filled : (xs : List ℕ) → length xs ≤ 64 → length (xs ++ replicate (64 - length xs) 0) ≡ 64
filled xs few = omega (arith, few, length-append xs (replicate (64 - length xs) 0), length-replicate {A = ℕ} (64 - length xs) 0)

digest_fits : (algorithm : IntegrityAlgorithm) (key : List ℕ) → length (digest_of algorithm key) ≤ 64
digest_fits Sha1 key = omega (arith, digest_has_length Sha1 key)
digest_fits Sha256 key = omega (arith, digest_has_length Sha256 key)

by_length : (algorithm : IntegrityAlgorithm) (key : List ℕ) (long : Bool) → nat_lt 64 (length key) ≡ long → length (block_of_key (digest_of algorithm) key) ≡ 64
by_length algorithm key true is = rw is (filled (digest_of algorithm key) (digest_fits algorithm key))
by_length algorithm key false is = rw is (filled key (ltb-false 64 (length key) is))

padded_length : (algorithm : IntegrityAlgorithm) (key : List ℕ) (pad : ℕ) → length (padded_with pad (block_of_key (digest_of algorithm) key)) ≡ 64
padded_length algorithm key pad =
    length-map (block_of_key (digest_of algorithm) key) (λ byte. bit_xor byte pad) ∙ by_length algorithm key (nat_lt 64 (length key)) refl

pub blocks_length : (algorithm : IntegrityAlgorithm) (key : List ℕ) → length (blocks_over (digest_of algorithm) key) ≡ 128
blocks_length algorithm key =
    omega (arith, length-append (padded_with 0x36 (block_of_key (digest_of algorithm) key)) (padded_with 0x5C (block_of_key (digest_of algorithm) key)), padded_length algorithm key 0x36, padded_length algorithm key 0x5C)

ready_length : (key : List ℕ) → length (ready_blocks key) ≡ 256
ready_length key = omega (arith, length-append (blocks_over sha1 key) (blocks_over sha256 key), blocks_length Sha1 key, blocks_length Sha256 key)

-- ---- The key and its blocks, one after the other

key_before : (key : List ℕ) → key_in (key ++ ready_blocks key) ≡ key
key_before key = take_at key (ready_blocks key) _ (omega (arith, length-append key (ready_blocks key), ready_length key))

-- what a secret is that both were appended to while it was empty
pub appended : (secret after before key : List ℕ) → secret ≡ after → after ≡ before ++ (key ++ ready_blocks key)
    → before ≡ [] → secret ≡ key ++ ready_blocks key
appended secret after before key is after_is before_is =
    is ∙ (after_is ∙ ap (λ (b : List ℕ). b ++ (key ++ ready_blocks key)) before_is)

pub is_long : (secret key : List ℕ) → secret ≡ key ++ ready_blocks key → 256 ≤ length secret
is_long secret key is = omega (arith, ap length is, length-append key (ready_blocks key), ready_length key)

pub key_found : (secret key : List ℕ) → secret ≡ key ++ ready_blocks key → key_in secret ≡ key
key_found secret key is = ap key_in is ∙ key_before key

pub blocks_found : (secret key : List ℕ) → secret ≡ key ++ ready_blocks key → secret ≡ key_in secret ++ ready_blocks (key_in secret)
blocks_found secret key is = is ∙ ap (λ (k : List ℕ). k ++ ready_blocks k) (sym (key_found secret key is))

pub of_sha1 : (ready key : List ℕ) → ready ≡ ready_blocks key → take 128 ready ≡ blocks_over sha1 key
of_sha1 ready key is = ap (take 128) is ∙ take_at (blocks_over sha1 key) (blocks_over sha256 key) 128 (blocks_length Sha1 key)

pub of_sha256 : (ready key : List ℕ) → ready ≡ ready_blocks key → drop 128 ready ≡ blocks_over sha256 key
of_sha256 ready key is = ap (drop 128) is ∙ drop_at (blocks_over sha1 key) (blocks_over sha256 key) 128 (blocks_length Sha1 key)

-- ---- An HMAC by two blocks

pub inner_block : (algorithm : IntegrityAlgorithm) (blocks key : List ℕ) → blocks ≡ blocks_over (digest_of algorithm) key → take 64 blocks ≡ padded_with 0x36 (block_of_key (digest_of algorithm) key)
inner_block algorithm blocks key is = ap (take 64) is ∙ take_at _ (padded_with 0x5C (block_of_key (digest_of algorithm) key)) 64 (padded_length algorithm key 0x36)

pub outer_block : (algorithm : IntegrityAlgorithm) (blocks key : List ℕ) → blocks ≡ blocks_over (digest_of algorithm) key → drop 64 blocks ≡ padded_with 0x5C (block_of_key (digest_of algorithm) key)
outer_block algorithm blocks key is = ap (drop 64) is ∙ drop_at (padded_with 0x36 (block_of_key (digest_of algorithm) key)) _ 64 (padded_length algorithm key 0x36)

-- the outer digest of the inner one is an HMAC
pub by_blocks : (algorithm : IntegrityAlgorithm) (inner outer key text first second : List ℕ)
    → inner ≡ padded_with 0x36 (block_of_key (digest_of algorithm) key) → outer ≡ padded_with 0x5C (block_of_key (digest_of algorithm) key)
    → first ≡ digest_of algorithm (inner ++ text) → second ≡ digest_of algorithm (outer ++ (first ++ [])) → second ≡ hmac algorithm key text
unfolding hmac hmac_over
by_blocks algorithm inner outer key text first second inner-is outer-is first-is second-is =
    second-is
    ∙ ap (λ (x : List ℕ). digest_of algorithm (outer ++ x)) (append-nil first ∙ first-is)
    ∙ ap (λ (x : List ℕ). digest_of algorithm (x ++ digest_of algorithm (inner ++ text))) outer-is
    ∙ ap (λ (x : List ℕ). digest_of algorithm (padded_with 0x5C (block_of_key (digest_of algorithm) key) ++ digest_of algorithm (x ++ text))) inner-is
