-- The one user and the one nonce that a server in C has looked up (RFC 8489, sections 9.1.3 and
-- 9.2.4).
use Rattle.std.specs.Prelude.{ℕ, List, take, Option, None, Some, ◌==◌, if◌then◌else◌}
use Rattle.std.specs.Borrow.{Bor}
use Rattle.std.specs.Option.{option_map}
use Rattle.stun_keys.specs.declared.keys.integrity_key.IntegrityKey.{IntegrityKey}
use Rattle.stun_values.specs.declared.algorithm.PasswordAlgorithmValue.{PasswordAlgorithmValue}
use Rattle.stun_values.specs.declared.algorithm.PasswordAlgorithmValue.TheVariants.{MD5, SHA256}
use Rattle.stun_authentication.specs.Lookups.{UserKey, key_held, Known, valid, stale, unknown}
use Rattle.stun_types_c.specs.declared.authentication.CNonceState.{CNonceState}
use Rattle.stun_types_c.specs.declared.authentication.CNonceState.TheVariants.{Valid, Stale, Unknown}
use Rattle.stun_types_c.specs.declared.authentication.OneNonce.{OneNonce}
use Rattle.stun_types_c.specs.declared.authentication.OneUser.{OneUser}
use Rattle.stun_authentication.specs.Identities.{Who}

-- a user's key, if C has one: its bytes, and the integrity algorithm that it was made for
abbrev pub held_of : Option IntegrityKey → Option UserKey
held_of key = option_map key_held key

-- the same of a key that is borrowed
abbrev pub borrowed_of : Option (Bor IntegrityKey) → Option UserKey
borrowed_of key = option_map (λ key. key_held key.now) key

-- the one of a user's two keys that a password algorithm makes
abbrev pub long_term_key_of : (md5 sha256 : Option UserKey) → PasswordAlgorithmValue
    → Option UserKey
long_term_key_of md5 sha256 MD5 = md5
long_term_key_of md5 sha256 SHA256 = sha256

-- a nonce that is valid was sent with these algorithms
abbrev pub known_nonce : CNonceState → List PasswordAlgorithmValue → Known
known_nonce Valid sent = valid sent
known_nonce Stale sent = stale
known_nonce Unknown sent = unknown

-- what is known of the one nonce
abbrev pub known_of : OneNonce → Known
known_of one = known_nonce one.state (take one.sent.count one.sent.all)

-- the state of a nonce by its number: 0 says that it is unknown, 1 that it is valid, and 2 that it
-- was valid once
abbrev pub state_named : ℕ → Option CNonceState
state_named number =
    if number == 0 then Some Unknown
    else (if number == 1 then Some Valid else (if number == 2 then Some Stale else None))

-- what is known of a nonce in a state
abbrev pub nonce_in : ℕ → List PasswordAlgorithmValue → Option Known
nonce_in number sent = option_map (λ state. known_nonce state sent) (state_named number)

-- the keys of the one user, whoever is asked for
abbrev pub keys_of : OneUser → Who → List ℕ → PasswordAlgorithmValue → Option UserKey
keys_of one user realm = long_term_key_of (borrowed_of one.md5) (borrowed_of one.sha256)
