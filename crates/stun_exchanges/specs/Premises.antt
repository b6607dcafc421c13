-- What the laws of logins ask for.
use Rattle.std.specs.Prelude.{◌≡◌, ◌⊎◌, ℕ, ◌≤◌, ◌^◌, ◌<◌, Bool, true, false, ◌||◌, List, [], ◌∷◌, length, Option, None, Some, if◌then◌else◌}
use Rattle.std.specs.List.{list_any}
use Rattle.stun_grammar.specs.declared.integrity_algorithm.IntegrityAlgorithm.{IntegrityAlgorithm}
use Rattle.stun_grammar.specs.declared.integrity_algorithm.IntegrityAlgorithm.TheVariants.{Sha1, Sha256}
use Rattle.stun_grammar.specs.Attributes.{Attribute, types}
use Rattle.stun_grammar.specs.AttributeTypes.{USERNAME, USERHASH, REALM, NONCE, PASSWORD_ALGORITHM, PASSWORD_ALGORITHMS, is_ending}
use Rattle.stun_grammar.specs.ScannedOrder.{has}
use Rattle.stun_grammar.specs.Writing.{message_encoding, greatest_length, IsWritable}
use Rattle.stun_keys.specs.declared.keys.integrity_key.IntegrityKey.{IntegrityKey}
use Rattle.stun_keys.specs.Keys.{key_bytes, key_algorithm, serves}
use Rattle.stun_authentication.specs.declared.policy.Policy.{Policy}
use Rattle.stun_authentication.specs.Lookups.{UserKey}
use Rattle.stun_transactions.specs.declared.response_policy.ResponsePolicy.{ResponsePolicy}

-- the types of the attributes that say who a client is, and what it was asked to copy
abbrev pub credential_types : List ℕ
credential_types =
    USERNAME ∷ USERHASH ∷ REALM ∷ NONCE ∷ PASSWORD_ALGORITHM ∷ PASSWORD_ALGORITHMS ∷ []

-- whether an attribute of this type is none that a caller may add itself: an ending one, or a
-- credential
abbrev pub is_reserved : ℕ → Bool
is_reserved type = is_ending type || has type credential_types

-- a message that may be written, whose attributes are the caller's own
pub record IsOwn (kind id : ℕ) (attributes : List Attribute) : Type 0 where
  pub writable : IsWritable kind id attributes
  pub own : list_any is_reserved (types attributes) ≡ false

-- a message that may be written, and that isn't signed and has no FINGERPRINT
pub record IsOpen (kind id : ℕ) (attributes : List Attribute) : Type 0 where
  pub writable : IsWritable kind id attributes
  pub ordinary : list_any is_ending (types attributes) ≡ false

-- a message is not longer than a message may be
abbrev pub HasRoom : ℕ → ℕ → List Attribute → Type 0
HasRoom kind id attributes = length (message_encoding kind id attributes) ≤ greatest_length

-- a name fits the length field of its attribute
abbrev pub IsNamed : List ℕ → Type 0
IsNamed name = length name < 2 ^ 16

-- ---- Short-term credentials

abbrev pub same_algorithm : (a b : IntegrityAlgorithm) → Bool
same_algorithm Sha1 Sha1 = true
same_algorithm Sha1 Sha256 = false
same_algorithm Sha256 Sha1 = false
same_algorithm Sha256 Sha256 = true

-- the algorithm of the integrity attribute that is checked, by which ones count, and
-- which ones a request has (None: both); none if they don't meet
abbrev pub checked : (counts sent : Option IntegrityAlgorithm) → Option IntegrityAlgorithm
checked None None = Some Sha256
checked None (Some a) = Some a
checked (Some a) None = Some a
checked (Some a) (Some b) = if same_algorithm a b then Some a else None

-- a message has the FINGERPRINT that is asked for
abbrev pub IsPrinted : (asked fingerprint : Bool) → Type 0
IsPrinted asked fingerprint = asked ≡ true → fingerprint ≡ true

-- a server's policy takes an algorithm, with a whole HMAC: if it takes both, or that one; and it
-- asks for no FINGERPRINT that isn't there
pub record Serves (policy : Policy) (algorithm : IntegrityAlgorithm) (fingerprint : Bool)
    : Type 0 where
  pub counts : (policy.algorithm ≡ None) ⊎ (policy.algorithm ≡ Some algorithm)
  pub min_hmac_length : policy.min_hmac_length ≤ 32
  pub printed : IsPrinted policy.fingerprint fingerprint

-- so does a client's usage
pub record Suits (usage : ResponsePolicy) (fingerprint : Bool) : Type 0 where
  pub min_hmac_length : usage.min_hmac_length ≤ 32
  pub printed : IsPrinted usage.fingerprint fingerprint

-- a user's key with these bytes, that works with an algorithm
pub record Works (bytes : List ℕ) (algorithm : IntegrityAlgorithm) (key : UserKey) : Type 0 where
  pub bytes_are : key.bytes ≡ bytes
  pub works : serves key.made_for algorithm ≡ true

-- a key with these bytes, that works with an algorithm
pub record WorksAs (key : List ℕ) (algorithm : IntegrityAlgorithm) (stored : IntegrityKey) : Type 0 where
  pub bytes_are : key_bytes stored ≡ key
  pub works : serves (key_algorithm stored) algorithm ≡ true
