-- One login, at which the premises of the clause `accepted` hold together, but for the one about keys.
use Rattle.std.specs.Prelude.{◌≡◌, ℕ, true, false, List, [], ◌∷◌, codes, None}
use Rattle.stun_base.specs.declared.message_class.MessageClass.TheVariants.{Request}
use Rattle.stun_base.specs.MessageTypes.{class_of}
use Rattle.stun_values.specs.declared.algorithm.PasswordAlgorithmValue.{PasswordAlgorithmValue}
use Rattle.stun_values.specs.declared.algorithm.PasswordAlgorithmValue.TheVariants.{MD5, SHA256}
use Rattle.stun_authentication.specs.Asking.{Asked, listed}
use Rattle.stun_authentication.specs.Challenges.{Retry, retry_with, signing_algorithm}
use Rattle.stun_authentication.specs.Cookies.{cookie}
use Rattle.stun_authentication.specs.Lookups.{Known, valid}
use Rattle.stun_authentication.specs.declared.policy.Policy.{Policy}
use Rattle.stun_exchanges.specs.Offers.{IsOffered, Takes, IsShort}
use Rattle.stun_exchanges.specs.Premises.{IsOwn, HasRoom, Serves}
use Rattle.stun_authentication.specs.Requests.{User, retried_attributes}

-- a server that sends both algorithms, SHA-256 first
abbrev pub algorithms : List PasswordAlgorithmValue
algorithms = SHA256 ∷ MD5 ∷ []

abbrev pub asked : Asked
asked = record {
  realm = codes "example.org";
  nonce = cookie (record { password_algorithms = true; username_anonymity = false });
  list = listed algorithms;
}

abbrev pub nonces : List ℕ → Known
nonces nonce = valid algorithms

abbrev pub policy : Policy
policy = record { algorithm = None; min_hmac_length = 32; fingerprint = true }

-- a client that knows both takes the server's first
abbrev pub retry : Retry
retry = retry_with asked SHA256

abbrev pub user : User
user = record { name = codes "alice"; password = codes "wonderland" }

-- a binding request without attributes of its own, with a FINGERPRINT
pub record IsMet : Type 0 where
  pub offered : IsOffered nonces asked algorithms
  pub takes : Takes (MD5 ∷ SHA256 ∷ []) asked SHA256
  pub short : IsShort asked user.name
  pub class_is : class_of 0x0001 ≡ Request
  pub own : IsOwn 0x0001 7 []
  pub room : HasRoom 0x0001 7 (retried_attributes true retry user 0x0001 7 [])
  pub serves : Serves policy (signing_algorithm retry) true
