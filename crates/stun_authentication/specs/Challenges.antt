-- A client's half of the long-term credential mechanism (RFC 8489, section 9.2.5). Each row
-- answers, or hands on to the next.
use Rattle.std.specs.Prelude.{ℕ, Bool, false, not, ◌||◌, ◌&&◌, List, Option, None, Some, is_some, Result, Ok, Err, nat_eq, if◌then◌else◌, option_and_then}
use Rattle.std.specs.Cmp.Lexicographic.{pointwise}
use Rattle.std.specs.Option.{option_map_or}
use Rattle.stun_grammar.specs.declared.integrity_algorithm.IntegrityAlgorithm.{IntegrityAlgorithm}
use Rattle.stun_grammar.specs.AttributeTypes.{REALM, NONCE, PASSWORD_ALGORITHMS}
use Rattle.stun_values.specs.declared.algorithm.PasswordAlgorithmValue.{PasswordAlgorithmValue}
use Rattle.stun_values.specs.declared.algorithm.PasswordAlgorithmValue.TheVariants.{MD5}
use Rattle.stun_values.specs.Algorithms.{algorithm_number}
use Rattle.stun_values.specs.TextValues.{text_max, text_fault}
use Rattle.stun_authentication.specs.declared.retry.Retry.{Retry as HeldRetry}
use Rattle.stun_authentication.specs.declared.retry.NoRetry.{NoRetry}
use Rattle.stun_authentication.specs.declared.retry.NoRetry.TheVariants.{NotAChallenge, BidDown, Incomplete, NoAlgorithm, SameCredentials}
use Rattle.stun_authentication.specs.Asking.{Asked, asked_for, asked_in, signing_by}
use Rattle.stun_authentication.specs.Codes.{is_code, response_code, is_challenge}
use Rattle.stun_authentication.specs.Cookies.{promises_algorithms}
use Rattle.stun_authentication.specs.Identities.{value_of}
use Rattle.stun_authentication.specs.Lists.{numbered, first_listed}

-- how a request is sent again: what it is asked for, and the algorithm of the key, which the client
-- selects
pub record Retry : Type 0 where
  pub asked : Asked
  pub algorithm : PasswordAlgorithmValue

abbrev pub retry_with : Asked → PasswordAlgorithmValue → Retry
retry_with asked algorithm = record { asked = asked; algorithm = algorithm }

abbrev pub retry_of : HeldRetry → Retry
retry_of retry = retry_with (asked_in retry.challenge) retry.algorithm

-- the algorithm by which the request is signed
abbrev pub signing_algorithm : Retry → IntegrityAlgorithm
signing_algorithm retry = signing_by retry.asked.list

-- the list of d
abbrev pub list_of : List ℕ → Option (List ℕ)
list_of d = value_of d PASSWORD_ALGORITHMS

-- the nonce of d promises a list, and there is none (the first paragraph and the fourth)
abbrev pub is_bid_down : List ℕ → Bool
is_bid_down d =
    option_map_or (λ nonce. promises_algorithms nonce) (value_of d NONCE) false
    && not (is_some (list_of d))

-- the server sent a list before, and d has none
abbrev pub lost_list : (had_algorithms : Bool) → List ℕ → Bool
lost_list had_algorithms d = had_algorithms && not (is_some (list_of d))

-- the text in an attribute of d
abbrev pub text_in : ℕ → List ℕ → Option (List ℕ)
text_in most value = if is_some (text_fault most value) then None else Some value

abbrev pub text_of : ℕ → ℕ → List ℕ → Option (List ℕ)
text_of most type d = option_and_then (λ value. text_in most value) (value_of d type)

-- the algorithm of the key: the first one on the list that the client supports (the second
-- paragraph), and MD5 if there is no list
abbrev pub selected : List PasswordAlgorithmValue → Option (List ℕ) → Option PasswordAlgorithmValue
selected supported None = numbered supported (algorithm_number MD5)
selected supported (Some list) = first_listed supported list

-- whether d refuses the credentials that were tried in a realm, and asks for them again (the end of
-- the second paragraph): the password is the same, and the user
abbrev pub repeats : (tried : Option (List ℕ)) → List ℕ → List ℕ → Bool
repeats tried realm d =
    is_code 401 (response_code d)
    && option_map_or (λ before. pointwise nat_eq before realm) tried false

-- ---- The rows, the last one first

-- the request is not sent again with the credentials that were refused
abbrev pub by_credentials : (tried : Option (List ℕ)) → Retry → List ℕ → Result Retry NoRetry
by_credentials tried retry d =
    if repeats tried retry.asked.realm d then Err SameCredentials else Ok retry

-- an algorithm that is supported
abbrev pub by_algorithm : List PasswordAlgorithmValue → (tried : Option (List ℕ)) → Asked → List ℕ
    → Result Retry NoRetry
by_algorithm supported tried asked d =
    option_map_or (λ algorithm. by_credentials tried (retry_with asked algorithm) d)
    (selected supported asked.list) (Err NoAlgorithm)

-- REALM and NONCE, which the request copies (the second paragraph)
abbrev pub by_texts : List PasswordAlgorithmValue → (tried : Option (List ℕ)) → List ℕ
    → Result Retry NoRetry
by_texts supported tried d =
    option_map_or (λ realm.
    option_map_or (λ nonce. by_algorithm supported tried (asked_for realm nonce (list_of d)) d)
    (text_of text_max NONCE d) (Err Incomplete))
    (text_of text_max REALM d) (Err Incomplete)

-- a list that was promised, or that the server sent before, is there (the first paragraph)
abbrev pub by_list : List PasswordAlgorithmValue → (tried : Option (List ℕ))
    → (had_algorithms : Bool) → List ℕ → Result Retry NoRetry
by_list supported tried had_algorithms d =
    if is_bid_down d || lost_list had_algorithms d then Err BidDown else by_texts supported tried d

-- how a client that supports these algorithms sends its request again after d; or why it doesn't. Its credentials were tried in one realm or in none, and the server sent it a list before or
-- not
abbrev pub challenge_of : List PasswordAlgorithmValue → (tried : Option (List ℕ))
    → (had_algorithms : Bool) → List ℕ → Result Retry NoRetry
challenge_of supported tried had_algorithms d =
    if is_challenge d then by_list supported tried had_algorithms d else Err NotAChallenge
