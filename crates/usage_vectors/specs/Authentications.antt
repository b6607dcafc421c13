-- Messages to which rows of a server's checks apply (RFC 8489, sections 9.1.3 and 9.2.4), and what
-- the server has. The user and the realm are those of RFC 5769, section 2.4.
use Rattle.std.specs.Prelude.{ℕ, true, false, List, [], ◌∷◌, ◌++◌, codes, replicate, Option, None, Some}
use Rattle.stun_grammar.specs.declared.integrity_algorithm.IntegrityAlgorithm.TheVariants.{Sha1}
use Rattle.stun_grammar.specs.Attributes.{Attribute, canonical}
use Rattle.stun_grammar.specs.AttributeTypes.{USERNAME, USERHASH, REALM, NONCE, MESSAGE_INTEGRITY, PASSWORD_ALGORITHM, PASSWORD_ALGORITHMS}
use Rattle.stun_grammar.specs.Writing.{message_encoding}
use Rattle.standard_vectors.specs.Parameters.{user_name, user_hash, user_key, user_id, realm}
use Rattle.stun_values.specs.declared.algorithm.PasswordAlgorithmValue.{PasswordAlgorithmValue}
use Rattle.stun_values.specs.declared.algorithm.PasswordAlgorithmValue.TheVariants.{MD5, SHA256}
use Rattle.stun_authentication.specs.declared.policy.Policy.{Policy}
use Rattle.stun_authentication.specs.Identities.{Who}
use Rattle.stun_authentication.specs.Lookups.{UserKey, key_made, Known, valid}

-- both integrity attributes count; the usage doesn't use FINGERPRINT, or uses it
abbrev pub unprinted : Policy
unprinted = record { algorithm = None; min_hmac_length = 32; fingerprint = false }

abbrev pub printed : Policy
printed = record unprinted { fingerprint = true }

-- a server that has one key for every user, or none
abbrev pub everybody : UserKey → Who → List ℕ → PasswordAlgorithmValue → Option UserKey
everybody key user realm algorithm = Some key

abbrev pub nobody : Who → List ℕ → PasswordAlgorithmValue → Option UserKey
nobody user realm algorithm = None

abbrev pub user : UserKey
user = key_made None (user_key Sha1)

abbrev pub other : UserKey
other = key_made None (codes "other")

-- what it knows of every nonce
abbrev pub sent_with_both : List ℕ → Known
sent_with_both nonce = valid (MD5 ∷ SHA256 ∷ [])

abbrev pub sent_with_md5 : List ℕ → Known
sent_with_md5 nonce = valid (MD5 ∷ [])

-- a message of attributes, without an integrity attribute, and with one of zeros
abbrev pub unsigned : (type : ℕ) → List Attribute → List ℕ
unsigned type attributes = message_encoding type user_id attributes

abbrev pub signed : List Attribute → List ℕ
signed attributes =
    unsigned 0x0001 (attributes ++ (canonical MESSAGE_INTEGRITY (replicate 20 0) ∷ []))

-- USERNAME and REALM, with a nonce that promises PASSWORD-ALGORITHMS (RFC 8656, section 20), or one
-- that doesn't
abbrev pub promised : List Attribute → List Attribute
promised more =
    canonical USERNAME user_name ∷ canonical REALM realm
    ∷ canonical NONCE (codes "obMatJos2gAAAadl7W7PeDU4hKE72jda") ∷ more

abbrev pub unpromised : List Attribute → List Attribute
unpromised more =
    canonical USERNAME user_name ∷ canonical REALM realm ∷ canonical NONCE (codes "f//499k954d6OL34oL9FSTvy64sA")
    ∷ more

-- PASSWORD-ALGORITHM with SHA-256, and PASSWORD-ALGORITHMS with a list of it, of MD5, and of both
abbrev pub sha256_chosen : Attribute
sha256_chosen = canonical PASSWORD_ALGORITHM (0 ∷ 2 ∷ 0 ∷ 0 ∷ [])

abbrev pub sha256_listed : Attribute
sha256_listed = canonical PASSWORD_ALGORITHMS (0 ∷ 2 ∷ 0 ∷ 0 ∷ [])

abbrev pub md5_listed : Attribute
md5_listed = canonical PASSWORD_ALGORITHMS (0 ∷ 1 ∷ 0 ∷ 0 ∷ [])

abbrev pub both_listed : Attribute
both_listed = canonical PASSWORD_ALGORITHMS (0 ∷ 1 ∷ 0 ∷ 0 ∷ 0 ∷ 2 ∷ 0 ∷ 0 ∷ [])

-- the same user by the hash of the name
abbrev pub hashed : Attribute
hashed = canonical USERHASH user_hash
