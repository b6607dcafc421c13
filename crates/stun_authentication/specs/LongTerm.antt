-- A server's checks by the long-term credential mechanism (RFC 8489, section 9.2.4), row by row as
-- docs/PROTOCOL.md has them. Each condition reads the message, what is known of its nonce, and the
-- key that its user has; the first that holds decides.
use Rattle.std.specs.Prelude.{◌≡◌, ℕ, Bool, true, false, ◌&&◌, ◌||◌, not, is_some, unwrap_or, List, ◌∷◌, [], Option, None, Some, nat_eq, if◌then◌else◌, option_and_then}
use Rattle.std.specs.Cmp.Lexicographic.{pointwise}
use Rattle.std.specs.Option.{option_map_or}
use Rattle.stun_grammar.specs.declared.integrity_algorithm.IntegrityAlgorithm.{IntegrityAlgorithm}
use Rattle.stun_grammar.specs.declared.integrity_algorithm.IntegrityAlgorithm.TheVariants.{Sha1, Sha256}
use Rattle.stun_grammar.specs.AttributeTypes.{USERNAME, USERHASH, REALM, NONCE, PASSWORD_ALGORITHM, PASSWORD_ALGORITHMS}
use Rattle.stun_grammar.specs.Headers.{type_field}
use Rattle.stun_base.specs.declared.message_class.MessageClass.{MessageClass}
use Rattle.stun_base.specs.declared.message_class.MessageClass.TheVariants.{Request}
use Rattle.stun_base.specs.MessageTypes.{class_of}
use Rattle.stun_values.specs.declared.algorithm.PasswordAlgorithmValue.{PasswordAlgorithmValue}
use Rattle.stun_values.specs.declared.algorithm.PasswordAlgorithmValue.TheVariants.{MD5}
use Rattle.stun_values.specs.Algorithms.{algorithms_encoding}
use Rattle.stun_authentication.specs.declared.answer.Refusal.TheVariants.{BadRequest, Unauthenticated, StaleNonce}
use Rattle.stun_authentication.specs.declared.policy.Policy.{Policy}
use Rattle.stun_authentication.specs.Answers.{Decision, refuse, discard, not_a_request, Row, decides, decided, accepted}
use Rattle.stun_authentication.specs.Cookies.{promises_algorithms}
use Rattle.stun_authentication.specs.Identities.{Who, value_of, shows, identity_of}
use Rattle.stun_authentication.specs.Lists.{both, sole_named, first_listed}
use Rattle.stun_authentication.specs.Lookups.{UserKey, Known, valid, stale, unknown}
use Rattle.stun_authentication.specs.Policies.{is_taken, is_signed, proof_with}

-- ---- What the conditions read

-- whether a class is that of a request
abbrev pub is_request : MessageClass → Bool
is_request Request = true
is_request _ = false

-- what is known of the nonce of d
abbrev pub nonce_of : (nonces : List ℕ → Known) → List ℕ → Known
nonce_of nonces d = option_map_or nonces (value_of d NONCE) unknown

abbrev pub is_valid : Known → Bool
is_valid (valid algorithms) = true
is_valid stale = false
is_valid unknown = false

-- the value of PASSWORD-ALGORITHM or PASSWORD-ALGORITHMS in d, if its nonce promises the list. In
-- every other case d is processed as though with MD5, whatever it shows (third check)
abbrev pub promised : ℕ → List ℕ → Option (List ℕ)
promised type d =
    if option_map_or promises_algorithms (value_of d NONCE) false then value_of d type else None

-- the algorithm that d chooses by PASSWORD-ALGORITHM: a number, with no parameters (14.12)
abbrev pub chosen : List ℕ → Option PasswordAlgorithmValue
chosen d = option_and_then (λ value. sole_named both value) (promised PASSWORD_ALGORITHM d)

-- whether a list is the one that was sent with the nonce, byte for byte; of a nonce that isn't
-- valid no list is known
abbrev pub is_sent : Known → List ℕ → Bool
is_sent (valid algorithms) list = pointwise nat_eq list (algorithms_encoding algorithms)
is_sent stale list = true
is_sent unknown list = true

abbrev pub is_listed : List ℕ → PasswordAlgorithmValue → Bool
is_listed list algorithm = is_some (first_listed (algorithm ∷ []) list)

-- the key of the user whom d names, in the server's realm, by the algorithm that d chooses, or by
-- MD5
abbrev pub key_of_user : List ℕ → (keys : Who → List ℕ → PasswordAlgorithmValue → Option UserKey)
    → List ℕ → Option UserKey
key_of_user realm keys d =
    option_and_then (λ user. keys user realm (unwrap_or (chosen d) MD5)) (identity_of d)

-- the algorithm that the reply is signed by, if d chooses an algorithm or none (the last paragraph)
abbrev pub reply_algorithm : Option PasswordAlgorithmValue → IntegrityAlgorithm
reply_algorithm None = Sha1
reply_algorithm (Some algorithm) = Sha256

-- ---- The conditions of the second and the third check

-- there is neither USERNAME nor USERHASH, or no REALM, or no NONCE
abbrev pub lacks_credentials : List ℕ → Bool
lacks_credentials d =
    not ((shows USERNAME d || shows USERHASH d) && (shows REALM d && shows NONCE d))

-- there are USERNAME and USERHASH
abbrev pub has_two_names : List ℕ → Bool
has_two_names d = shows USERNAME d && shows USERHASH d

-- the nonce promises PASSWORD-ALGORITHMS, and d shows only one of PASSWORD-ALGORITHM and
-- PASSWORD-ALGORITHMS
abbrev pub shows_one_alone : List ℕ → Bool
shows_one_alone d =
    let one = is_some (promised PASSWORD_ALGORITHM d) in
    let list = is_some (promised PASSWORD_ALGORITHMS d) in
    (one || list) && not (one && list)

-- it shows both (or `shows_one_alone` decides), and the list isn't the one that was sent with the
-- nonce
abbrev pub shows_other_list : Known → List ℕ → Bool
shows_other_list state d =
    option_map_or (λ list. not (is_sent state list)) (promised PASSWORD_ALGORITHMS d) false

-- it shows both (or `shows_one_alone` decides), and the algorithm isn't on the list, or is neither
-- MD5 nor SHA-256 without parameters, or more octets follow it
abbrev pub chooses_none_listed : List ℕ → Bool
chooses_none_listed d =
    option_map_or (λ list. not (option_map_or (λ algorithm. is_listed list algorithm) (chosen d) false))
    (promised PASSWORD_ALGORITHMS d) false

-- ---- The rows

-- those before a key is looked up, with the section of each or its check in 9.2.4
abbrev pub rows_of_message : Policy → Known → List ℕ → List Row
rows_of_message policy state d =
    -- 1 (6.3): the usage uses FINGERPRINT, and d shows none
    (not (is_taken policy d), discard)
    -- 2 (9.2): it is no request
    ∷ (not (is_request (class_of (type_field d))), not_a_request)
    -- 3 (first check): no integrity attribute counts
    ∷ (not (is_signed policy d), refuse Unauthenticated)
    -- 4, 5 (second check)
    ∷ (lacks_credentials d, refuse BadRequest)
    ∷ (has_two_names d, refuse BadRequest)
    -- 6, 7, 8 (third check)
    ∷ (shows_one_alone d, refuse BadRequest)
    ∷ (shows_other_list state d, refuse BadRequest)
    ∷ (chooses_none_listed d, refuse BadRequest)
    ∷ []

-- those after it
abbrev pub by_key : Policy → Known → Option PasswordAlgorithmValue → Option UserKey → List ℕ
    → Decision
by_key policy state algorithm key d =
    decided
    -- 9 (fourth check): the server has no key for the user
    ((not (is_some key), refuse Unauthenticated)
    -- 10 (fifth check): no integrity attribute counts with that key, or the last is not the HMAC
    ∷ (not (is_some (proof_with policy key d)), refuse Unauthenticated)
    -- 11 (sixth check): the nonce isn't valid
    ∷ (not (is_valid state), refuse StaleNonce)
    ∷ [])
    -- 12: otherwise
    (accepted (identity_of d) key (proof_with policy key d) (λ _. reply_algorithm algorithm))

-- what becomes of d
abbrev pub long_term : Policy → List ℕ → (nonces : List ℕ → Known)
    → (keys : Who → List ℕ → PasswordAlgorithmValue → Option UserKey) → List ℕ → Decision
long_term policy realm nonces keys d =
    let state = nonce_of nonces d in
    decided (rows_of_message policy state d)
    (by_key policy state (chosen d) (key_of_user realm keys d) d)

-- whether no row decides before a key is looked up
abbrev pub needs_key : Policy → (nonces : List ℕ → Known) → List ℕ → Bool
needs_key policy nonces d = not (decides (rows_of_message policy (nonce_of nonces d) d))

-- d asks for the key of this user, and this is known of its nonce; it chooses this algorithm
pub record IsAskedFor (nonces : List ℕ → Known) (d : List ℕ) (user : Who) (state : Known)
    (algorithm : Option PasswordAlgorithmValue) : Type 0 where
  pub user_is : identity_of d ≡ Some user
  pub state_is : state ≡ nonce_of nonces d
  pub algorithm_is : algorithm ≡ chosen d
