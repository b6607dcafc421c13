-- Users by their names and passwords, and the keys that these give (RFC 8489, sections 9.1.1,
-- 9.2.2, 14.4 and 18.5.1).
use Rattle.std.specs.Prelude.{ℕ, Bool, List, [], Option, None, Some, find, nat_eq, length, ◌==◌, if◌then◌else◌, option_and_then}
use Rattle.std.specs.Cmp.Lexicographic.{pointwise}
use Rattle.std.specs.Option.{option_map}
use Rattle.stun_attributes.specs.Userhash.{user_hash}
use Rattle.stun_keys.specs.declared.keys.long_term.LongTermCredentials.{LongTermCredentials}
use Rattle.stun_keys.specs.Keys.{login_username, login_password, long_term_key}
use Rattle.stun_values.specs.declared.algorithm.PasswordAlgorithmValue.{PasswordAlgorithmValue}
use Rattle.stun_values.specs.Algorithms.{integrity_of}
use Rattle.stun_authentication.specs.declared.logins.Logins.{Logins}
use Rattle.stun_authentication.specs.Identities.{Who, named, hashed}
use Rattle.stun_authentication.specs.Lookups.{UserKey, key_made}

abbrev pub users_of : Logins → List LongTermCredentials
users_of logins = logins.users.now

-- whether a user of a realm is meant
abbrev pub is_login : Who → List ℕ → LongTermCredentials → Bool
is_login (named name) realm user = pointwise nat_eq name (login_username user)
is_login (hashed hash) realm user = pointwise nat_eq hash (user_hash (login_username user) realm)

-- a user, if they have a password: an OpaqueString has at least one character (RFC 8265, section 4.2)
abbrev pub with_password : LongTermCredentials → Option LongTermCredentials
with_password user = if length (login_password user) == 0 then None else Some user

-- the first user who is meant, if they have a password
abbrev pub user_meant : Logins → Who → List ℕ → Option LongTermCredentials
user_meant logins who realm =
    option_and_then with_password (find (is_login who realm) (users_of logins))

-- the key of that user, which works with both integrity algorithms: the password, or the digest of
-- name, realm and password
abbrev pub short_term_key_of : Logins → List ℕ → Option UserKey
short_term_key_of logins name =
    option_map (λ user. key_made None (login_password user)) (user_meant logins (named name) [])

abbrev pub long_term_key_of : Logins → Who → List ℕ → PasswordAlgorithmValue → Option UserKey
long_term_key_of logins who realm algorithm =
    option_map
    (λ user. key_made None
    (long_term_key (integrity_of algorithm) (login_username user) realm (login_password user)))
    (user_meant logins who realm)
