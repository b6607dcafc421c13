-- What holds of a response that a transaction takes.
use Rattle.std.specs.Prelude.{◌≡◌, ℕ, ◌⊎◌, List, Bool, true, false, Option, None, Some, MatchOption, IsSomeAnd}
use Rattle.stun_grammar.specs.declared.integrity_algorithm.IntegrityAlgorithm.{IntegrityAlgorithm}
use Rattle.stun_grammar.specs.Parsing.{parse_fault}
use Rattle.stun_grammar.specs.Accepting.{IsAuthenticThrough}
use Rattle.stun_keys.specs.declared.keys.integrity_key.IntegrityKey.{IntegrityKey}
use Rattle.stun_keys.specs.Keys.{key_bytes, key_algorithm}
use Rattle.stun_authentication.specs.Challenges.{is_bid_down}
use Rattle.stun_authentication.specs.Codes.{is_challenge}
use Rattle.stun_authentication.specs.Policies.{has_least_length}
use Rattle.stun_transactions.specs.declared.guard.Signed.{Signed}
use Rattle.stun_transactions.specs.declared.parts.Mechanism.{Mechanism}
use Rattle.stun_transactions.specs.declared.parts.Mechanism.TheVariants.{ShortTerm, FirstLongTerm, LongTerm}
use Rattle.stun_transactions.specs.declared.parts.TransactionParts.{TransactionParts}
use Rattle.stun_transactions.specs.declared.received.Outcome.{Outcome}
use Rattle.stun_transactions.specs.declared.received.Outcome.TheVariants.{Success, Error}
use Rattle.stun_transactions.specs.Guards.{signs_by, is_unsigned_bad_request}
use Rattle.stun_transactions.specs.Receiving.{is_answer}
use Rattle.stun_transactions.specs.Usages.{lacks_fingerprint}

-- whether a response is taken
abbrev pub is_taken : Outcome → Bool
is_taken (Success proof) = true
is_taken (Error code proof) = true
is_taken _ = false

-- the algorithm that is said to authenticate it
abbrev pub proof_in : Outcome → Option IntegrityAlgorithm
proof_in (Success proof) = proof
proof_in (Error code proof) = proof
proof_in _ = None

-- d validates with the key by an algorithm, and the HMAC has enough bytes
pub record IsAuthenticBy (min_hmac_length : ℕ) (key : IntegrityKey) (d : List ℕ)
    (algorithm : IntegrityAlgorithm) : Type 0 where
  pub authentic : IsAuthenticThrough (key_algorithm key) (λ _. key_bytes key) d algorithm
  pub long : has_least_length min_hmac_length algorithm d ≡ true

-- it does so by the algorithm that is said to authenticate it. By a short-term credential there is
-- one, by which the request is signed too; by a long-term one there is one, but that a challenge may
-- have none. Without a key there is none
abbrev pub IsProved : Option Mechanism → Option IntegrityKey → (min_hmac_length : ℕ) → Signed
    → List ℕ → Option IntegrityAlgorithm → Type 0
IsProved None key min_hmac_length signed d proof = proof ≡ None
IsProved (Some FirstLongTerm) key min_hmac_length signed d proof = proof ≡ None
IsProved (Some ShortTerm) key min_hmac_length signed d proof =
    IsSomeAnd proof (λ a. (signs_by signed a ≡ true)
    × IsSomeAnd key (λ k. IsAuthenticBy min_hmac_length k d a))
IsProved (Some LongTerm) key min_hmac_length signed d proof =
    MatchOption proof (is_challenge d ≡ true)
    (λ a. IsSomeAnd key (λ k. IsAuthenticBy min_hmac_length k d a))

-- d shows the PASSWORD-ALGORITHMS that its nonce promises, and is no unsigned 400
pub record IsFit (d : List ℕ) : Type 0 where
  pub promised : is_bid_down d ≡ false
  pub not_bad : is_unsigned_bad_request d ≡ false

-- so it is by the long-term mechanism, unless d is a challenge
abbrev pub IsFitBy : Option Mechanism → List ℕ → Type 0
IsFitBy None d = Unit {0}
IsFitBy (Some FirstLongTerm) d = (is_challenge d ≡ true) ⊎ IsFit d
IsFitBy (Some ShortTerm) d = Unit {0}
IsFitBy (Some LongTerm) d = (is_challenge d ≡ true) ⊎ IsFit d

-- d is a message, a response to the request, and authentic; it shows a FINGERPRINT if the usage
-- sends them
pub record IsRightResponse (parts : TransactionParts) (key : Option IntegrityKey) (d : List ℕ)
    (proof : Option IntegrityAlgorithm) : Type 0 where
  pub parses : parse_fault d ≡ None
  pub answers : is_answer parts d ≡ true
  pub fingerprint : lacks_fingerprint parts.usage d ≡ false
  pub fit : IsFitBy parts.mechanism d
  pub proved : IsProved parts.mechanism key parts.usage.min_hmac_length parts.signed d proof
