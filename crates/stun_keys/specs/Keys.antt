-- Credentials, and the keys of HMACs that they give (RFC 8489, sections 9.1.1, 9.2.2 and 18.5.1).
use Rattle.std.specs.Prelude.{◌≡◌, ℕ, List, ◌∷◌, ◌++◌, Bool, true, false, Option, Some, None}
use Rattle.std.specs.Box.{boxed_slice_items}
use Rattle.std.specs.String.{string_bytes}
use Rattle.md5.specs.Md5.{md5}
use Rattle.sha2.specs.Sha256.{sha256}
use Rattle.stun_grammar.specs.declared.integrity_algorithm.IntegrityAlgorithm.{IntegrityAlgorithm}
use Rattle.stun_grammar.specs.declared.integrity_algorithm.IntegrityAlgorithm.TheVariants.{Sha1, Sha256}
use Rattle.stun_keys.specs.declared.keys.integrity_key.IntegrityKey.{IntegrityKey}
use Rattle.stun_keys.specs.Blocks.{key_in}
use Rattle.stun_keys.specs.Prepared.{keeps}
use Rattle.stun_keys.specs.declared.keys.long_term.LongTermCredentials.{LongTermCredentials}
use Rattle.stun_keys.specs.declared.keys.long_term_key.LongTermKeyCredentials.{LongTermKeyCredentials}
use Rattle.stun_keys.specs.declared.keys.short_term.ShortTermCredentials.{ShortTermCredentials}
use Rattle.stun_keys.specs.declared.keys.credentials.MessageIntegrityCredentials.{MessageIntegrityCredentials}
use Rattle.stun_keys.specs.declared.keys.credentials.MessageIntegrityCredentials.TheVariants.{ShortTerm, LongTerm}

-- ---- The texts of credentials, as bytes

abbrev pub login_username : LongTermCredentials → List ℕ
login_username credentials = string_bytes credentials.username

abbrev pub login_password : LongTermCredentials → List ℕ
login_password credentials = string_bytes credentials.password.text

abbrev pub long_term_username : LongTermKeyCredentials → List ℕ
long_term_username credentials = string_bytes credentials.username

abbrev pub long_term_password : LongTermKeyCredentials → List ℕ
long_term_password credentials = string_bytes credentials.password.text

abbrev pub long_term_realm : LongTermKeyCredentials → List ℕ
long_term_realm credentials = string_bytes credentials.realm

abbrev pub short_term_password : ShortTermCredentials → List ℕ
short_term_password credentials = string_bytes credentials.password.text

-- copies of credentials: the same texts
pub record SameLogin (copy credentials : LongTermCredentials) : Type 0 where
  pub username_is : login_username copy ≡ login_username credentials
  pub password_is : login_password copy ≡ login_password credentials

pub record SameLongTerm (copy credentials : LongTermKeyCredentials) : Type 0 where
  pub username_is : long_term_username copy ≡ long_term_username credentials
  pub password_is : long_term_password copy ≡ long_term_password credentials
  pub realm_is : long_term_realm copy ≡ long_term_realm credentials

abbrev pub SameCredentials : (copy credentials : MessageIntegrityCredentials) → Type 0
SameCredentials (ShortTerm copy) (ShortTerm credentials) =
    short_term_password copy ≡ short_term_password credentials
SameCredentials (LongTerm copy) (LongTerm credentials) = SameLongTerm copy credentials
SameCredentials (ShortTerm copy) (LongTerm credentials) = ⊥
SameCredentials (LongTerm copy) (ShortTerm credentials) = ⊥

-- ---- Keys

-- the bytes of a key
abbrev pub key_bytes : IntegrityKey → List ℕ
key_bytes key = key_in (boxed_slice_items key.bytes.bytes)

-- the algorithm that a key was made for, if it was made for one
abbrev pub key_algorithm : IntegrityKey → Option IntegrityAlgorithm
key_algorithm key = key.algorithm

-- a key that was made for this algorithm, or with none, with these bytes
pub record IsKey (algorithm : Option IntegrityAlgorithm) (bytes : List ℕ)
    (key : IntegrityKey) : Type 0 where
  pub algorithm_is : key_algorithm key ≡ algorithm
  pub bytes_are : key_bytes key ≡ bytes

-- whether a key that was made for one algorithm works with another: a key with no algorithm works
-- with both
abbrev pub serves : Option IntegrityAlgorithm → IntegrityAlgorithm → Bool
serves None algorithm = true
serves (Some Sha1) Sha1 = true
serves (Some Sha1) Sha256 = false
serves (Some Sha256) Sha1 = false
serves (Some Sha256) Sha256 = true

-- whether a key keeps hashers by each algorithm that one made for this works with
abbrev pub is_prepared_for : Option IntegrityAlgorithm → IntegrityKey → Bool
is_prepared_for algorithm key =
    keeps key.prepared.both (serves algorithm Sha1) (serves algorithm Sha256)

-- whether a key keeps hashers by each algorithm that it works with, so that its HMACs take none of
-- its blocks again
abbrev pub is_prepared : IntegrityKey → Bool
is_prepared key = is_prepared_for (key_algorithm key) key

-- username, realm and password, separated by colons
abbrev pub long_term_text : (username realm password : List ℕ) → List ℕ
long_term_text username realm password = username ++ (0x3A ∷ realm) ++ (0x3A ∷ password)

-- a long-term key is the digest of that text: MD5 for HMAC-SHA1, and SHA-256 for HMAC-SHA256
abbrev pub long_term_key : IntegrityAlgorithm → (username realm password : List ℕ) → List ℕ
long_term_key Sha1 username realm password = md5 (long_term_text username realm password)
long_term_key Sha256 username realm password = sha256 (long_term_text username realm password)

-- the bytes of the key that credentials give for an algorithm: a short-term key is the password
abbrev pub credentials_key : MessageIntegrityCredentials → IntegrityAlgorithm → List ℕ
credentials_key (ShortTerm credentials) algorithm = short_term_password credentials
credentials_key (LongTerm credentials) algorithm =
    long_term_key algorithm (long_term_username credentials) (long_term_realm credentials)
    (long_term_password credentials)

-- the algorithm that this key is made for: a short-term key has none
abbrev pub credentials_algorithm : MessageIntegrityCredentials → IntegrityAlgorithm
    → Option IntegrityAlgorithm
credentials_algorithm (ShortTerm credentials) algorithm = None
credentials_algorithm (LongTerm credentials) algorithm = Some algorithm
