-- The blocks that a key keeps ready for its HMACs (RFC 2104, section 2).
use Rattle.std.specs.Prelude.{ℕ, ◌-◌, List, ◌++◌, length, take, replicate}
use Rattle.sha1.specs.Sha1.{sha1}
use Rattle.sha2.specs.Sha256.{sha256}
use Rattle.stun_grammar.specs.Hmac.{block_of_key, padded_with}

-- at most 64 bytes, and zeros that fill them up to 64
abbrev pub filled_up : List ℕ → List ℕ
filled_up key = key ++ replicate (64 - length key) 0

-- the two blocks with which an HMAC over a digest begins: the key's block with the inner pad, and
-- with the outer one
abbrev pub blocks_over : (List ℕ → List ℕ) → List ℕ → List ℕ
blocks_over digest key =
    padded_with 0x36 (block_of_key digest key) ++ padded_with 0x5C (block_of_key digest key)

-- those of both digests, 256 bytes
abbrev pub ready_blocks : List ℕ → List ℕ
ready_blocks key = blocks_over sha1 key ++ blocks_over sha256 key

-- the key in bytes that end with its ready blocks
abbrev pub key_in : List ℕ → List ℕ
key_in secret = take (length secret - 256) secret

-- of two hashers the first has taken in the block with the inner pad, and the second the one with
-- the outer pad; holds hasher text says that a hasher has taken in a text
pub record AreKeyed {H : Type 0} (holds : H → List ℕ → Type 0) (digest : List ℕ → List ℕ)
    (key : List ℕ) (inner outer : H) : Type 0 where
  pub inner_holds : holds inner (padded_with 0x36 (block_of_key digest key))
  pub outer_holds : holds outer (padded_with 0x5C (block_of_key digest key))
