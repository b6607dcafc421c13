-- What a server keeps: keys and nonces (RFC 8489, sections 9.1.1, 9.2.2 and 9.2.4).
use Rattle.std.specs.Prelude.{◌≡◌, ℕ, List, Option, None, Some}
use Rattle.stun_grammar.specs.declared.integrity_algorithm.IntegrityAlgorithm.{IntegrityAlgorithm}
use Rattle.stun_keys.specs.declared.keys.integrity_key.IntegrityKey.{IntegrityKey}
use Rattle.stun_keys.specs.Keys.{key_bytes, key_algorithm, IsKey}
use Rattle.stun_values.specs.declared.algorithm.PasswordAlgorithmValue.{PasswordAlgorithmValue}
use Rattle.stun_authentication.specs.declared.lookups.NonceState.{NonceState}
use Rattle.stun_authentication.specs.declared.lookups.NonceState.TheVariants.{Valid, Stale, Unknown}

-- a user's key: its bytes, and the integrity algorithm that it was made for; None if it works with
-- both
pub record UserKey : Type 0 where
  pub bytes : List ℕ
  pub made_for : Option IntegrityAlgorithm

abbrev pub key_made : Option IntegrityAlgorithm → List ℕ → UserKey
key_made made_for bytes = record { bytes = bytes; made_for = made_for }

-- what a key is
abbrev pub key_held : IntegrityKey → UserKey
key_held key = key_made (key_algorithm key) (key_bytes key)

-- this key, or none
abbrev pub IsKeyOf : Option UserKey → Option IntegrityKey → Type 0
IsKeyOf None found = found ≡ None
IsKeyOf (Some key) (Some found) = IsKey key.made_for key.bytes found
IsKeyOf (Some key) None = ⊥

-- what is known of a nonce: it is valid and was sent with these algorithms; it was valid once; or the
-- server doesn't know it
pub data Known : Type 0 where
  valid : List PasswordAlgorithmValue → Known
  stale : Known
  unknown : Known

abbrev pub known : NonceState → Known
known (Valid algorithms) = valid algorithms.now
known Stale = stale
known Unknown = unknown
