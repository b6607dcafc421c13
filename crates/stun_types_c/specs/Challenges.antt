-- What is reported to a client in C of a challenge (RFC 8489, section 9.2.5).
use Rattle.std.specs.Prelude.{◌≡◌, ℕ, ◌+◌, Bool, List, length, slice_range, Option, None, Some, Result, MatchOption, MatchResult, if◌then◌else◌}
use Rattle.std.specs.Option.{option_map_or}
use Rattle.std.specs.Str.{is_utf8}
use Rattle.stun_grammar.specs.AttributeTypes.{REALM, NONCE, PASSWORD_ALGORITHMS}
use Rattle.stun_grammar.specs.Parsing.{parse_fault}
use Rattle.stun_types.specs.LookingUp.{nth}
use Rattle.stun_values.specs.declared.algorithm.PasswordAlgorithmValue.{PasswordAlgorithmValue}
use Rattle.stun_values.specs.Algorithms.{algorithm_number}
use Rattle.stun_authentication.specs.declared.retry.NoRetry.{NoRetry}
use Rattle.stun_authentication.specs.declared.retry.NoRetry.TheVariants.{NotAChallenge, BidDown, Incomplete, NoAlgorithm, SameCredentials}
use Rattle.stun_authentication.specs.Asking.{asks_userhash}
use Rattle.stun_authentication.specs.Challenges.{Retry, challenge_of, signing_algorithm}
use Rattle.stun_types_c.specs.declared.call_result.CResult.{CResult}
use Rattle.stun_types_c.specs.declared.challenges.CChallenge.{CChallenge}
use Rattle.stun_types_c.specs.Codes.{OK, INVALID_DATA, BAD_ARGUMENT, NOT_A_CHALLENGE, BID_DOWN, INCOMPLETE, NO_ALGORITHM, SAME_CREDENTIALS}
use Rattle.stun_types_c.specs.CResults.{plain, parse_result, Refuses}
use Rattle.stun_types_c.specs.Attributes.{in_c as attribute_in_c}
use Rattle.stun_types_c.specs.Keys.{number_of}
use Rattle.stun_types_c.specs.PasswordAlgorithms.{password_algorithms_named}

-- why a request isn't sent again
abbrev pub retry_answer : NoRetry → CResult
retry_answer NotAChallenge = plain NOT_A_CHALLENGE
retry_answer BidDown = plain BID_DOWN
retry_answer Incomplete = plain INCOMPLETE
retry_answer NoAlgorithm = plain NO_ALGORITHM
retry_answer SameCredentials = plain SAME_CREDENTIALS

-- the offset of the value of the first attribute of a type that d shows; 0 if it shows none
abbrev pub value_at : ℕ → List ℕ → ℕ
value_at type d = option_map_or (λ a. (attribute_in_c a).value_at) (nth d type 0) 0

-- what d asks for, in C's numbers, and where it is in d
abbrev pub in_c : List ℕ → Retry → CChallenge
in_c d retry = record {
  realm_at = value_at REALM d;
  realm_length = length retry.asked.realm;
  nonce_at = value_at NONCE d;
  nonce_length = length retry.asked.nonce;
  algorithms_at = value_at PASSWORD_ALGORITHMS d;
  algorithms_length = option_map_or (λ list. length list) retry.asked.list 0;
  password_algorithm = algorithm_number retry.algorithm;
  anonymous = if asks_userhash retry.asked then 1 else 0;
  integrity_algorithm = number_of (signing_algorithm retry);
  reserved = 0;
}

-- what is asked for is in d at the place that is reported to C
pub record StandsWhereReported (d : List ℕ) (retry : Retry) (reported : CChallenge) : Type 0 where
  pub realm : slice_range d reported.realm_at (reported.realm_at + reported.realm_length) ≡ retry.asked.realm
  pub nonce : slice_range d reported.nonce_at (reported.nonce_at + reported.nonce_length) ≡ retry.asked.nonce
  pub list : MatchOption retry.asked.list (reported.algorithms_at ≡ 0)
      (λ list. slice_range d reported.algorithms_at (reported.algorithms_at + reported.algorithms_length) ≡ list)

-- the realm in which the refused request had its credentials, if C says that it had some
abbrev pub tried_in : (was_tried : Bool) → List ℕ → Option (List ℕ)
tried_in was_tried realm = if was_tried then Some realm else None

-- why it is no text
abbrev pub tried_answer : Option (List ℕ) → Option CResult
tried_answer tried =
    option_map_or (λ realm. if is_utf8 realm then None else Some (plain INVALID_DATA)) tried None

-- what d asks for is reported, or why the request isn't sent again
abbrev pub TellsChallenge : List ℕ → Result Retry NoRetry → CResult → (old new : CChallenge)
    → Type 0
TellsChallenge d reported result old new =
    MatchResult reported
    (λ retry. (result ≡ plain OK) × (new ≡ in_c d retry))
    (λ reason. (result ≡ retry_answer reason) × (new ≡ old))

-- reading the challenge in d: why it is no message, or the report to a client that supports these
-- algorithms
abbrev pub ReadsFor : List PasswordAlgorithmValue → (tried : Option (List ℕ))
    → (had_algorithms : Bool) → (d : List ℕ) → CResult → (old new : CChallenge) → Type 0
ReadsFor supported tried had_algorithms d result old new =
    MatchOption (parse_fault d)
    (TellsChallenge d (challenge_of supported tried had_algorithms d) result old new)
    (λ e. Refuses (parse_result e) result old new)

-- the same by the numbers of the algorithms
abbrev pub ReadsChallenge : (numbers : List ℕ) → (tried : Option (List ℕ))
    → (had_algorithms : Bool) → (d : List ℕ) → CResult → (old new : CChallenge) → Type 0
ReadsChallenge numbers tried had_algorithms d result old new =
    MatchOption (password_algorithms_named numbers)
    (Refuses (plain BAD_ARGUMENT) result old new)
    (λ supported. MatchOption (tried_answer tried)
    (ReadsFor supported tried had_algorithms d result old new)
    (λ answer. Refuses answer result old new))
