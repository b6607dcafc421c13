-- What a decision that accepts a message says of it (RFC 8489, sections 9.1.3, 9.2.4 and 14.6).
use Rattle.std.specs.Prelude.{◌≡◌, ℕ, true, List, ◌∷◌, [], Option, None, Some, unwrap_or}
use Rattle.stun_grammar.specs.declared.integrity_algorithm.IntegrityAlgorithm.{IntegrityAlgorithm}
use Rattle.stun_grammar.specs.AttributeTypes.{USERNAME, NONCE, PASSWORD_ALGORITHM, PASSWORD_ALGORITHMS}
use Rattle.stun_keys.specs.Keys.{serves}
use Rattle.stun_values.specs.declared.algorithm.PasswordAlgorithmValue.{PasswordAlgorithmValue}
use Rattle.stun_values.specs.declared.algorithm.PasswordAlgorithmValue.TheVariants.{MD5}
use Rattle.stun_values.specs.Algorithms.{algorithms_encoding}
use Rattle.stun_authentication.specs.declared.policy.Policy.{Policy}
use Rattle.stun_authentication.specs.Identities.{Who, named, value_of, identity_of}
use Rattle.stun_authentication.specs.Lists.{first_listed}
use Rattle.stun_authentication.specs.Lookups.{UserKey, Known, valid}
use Rattle.stun_authentication.specs.LongTerm.{promised, chosen, reply_algorithm}
use Rattle.stun_authentication.specs.Policies.{is_taken, is_long_enough}

-- d is this user's, by short-term credentials: its USERNAME names the user, whose key it is; this
-- works with the algorithm of the HMAC, which serves the policy; the HMAC is long enough, and d has
-- the FINGERPRINT that the usage uses
pub record IsUsers (policy : Policy) (keys : List ℕ → Option UserKey) (d : List ℕ) (user : Who)
    (key : UserKey) (a : IntegrityAlgorithm) : Type 0 where
  pub name : List ℕ
  pub shown : value_of d USERNAME ≡ Some name
  pub is_named : user ≡ named name
  pub known : keys name ≡ Some key
  pub works : serves key.made_for a ≡ true
  pub counts : serves policy.algorithm a ≡ true
  pub long_enough : is_long_enough policy a d ≡ true
  pub taken : is_taken policy d ≡ true

-- d is this user's, by long-term credentials: the nonce is valid; its USERNAME or USERHASH names
-- the user, whose key it is in the server's realm, by the password algorithm that it chooses, or by
-- MD5, and works with the algorithm of the HMAC, which serves the policy; an algorithm that it
-- chooses is one of those that were sent with the nonce, and if it chooses none, it shows none, or
-- the nonce promises no list; the reply is signed by the algorithm that goes with it; the HMAC is
-- long enough, and d has the FINGERPRINT that the usage uses
pub record IsLogin (policy : Policy) (realm : List ℕ) (nonces : List ℕ → Known)
    (keys : Who → List ℕ → PasswordAlgorithmValue → Option UserKey) (d : List ℕ) (user : Who)
    (key : UserKey) (a reply : IntegrityAlgorithm) : Type 0 where
  pub identified : identity_of d ≡ Some user
  pub nonce : List ℕ
  pub shown : value_of d NONCE ≡ Some nonce
  pub sent : List PasswordAlgorithmValue
  pub is_valid : nonces nonce ≡ valid sent
  pub listed : (algorithm : PasswordAlgorithmValue) → chosen d ≡ Some algorithm
      → (value_of d PASSWORD_ALGORITHMS ≡ Some (algorithms_encoding sent))
      × (first_listed (algorithm ∷ []) (algorithms_encoding sent) ≡ Some algorithm)
  pub unlisted : chosen d ≡ None
      → (promised PASSWORD_ALGORITHM d ≡ None) × (promised PASSWORD_ALGORITHMS d ≡ None)
  pub known : keys user realm (unwrap_or (chosen d) MD5) ≡ Some key
  pub works : serves key.made_for a ≡ true
  pub counts : serves policy.algorithm a ≡ true
  pub reply_by : reply_algorithm (chosen d) ≡ reply
  pub long_enough : is_long_enough policy a d ≡ true
  pub taken : is_taken policy d ≡ true
