-- The error response to a request that is refused (RFC 8489, sections 9.1.3 and 9.2.4).
use Rattle.std.specs.Prelude.{ℕ, List, [], ◌∷◌, ◌++◌, length, Option, None, Some, is_some, nat_lt, if◌then◌else◌}
use Rattle.std.specs.Option.{option_or}
use Rattle.stun_grammar.specs.Attributes.{Attribute, canonical}
use Rattle.stun_grammar.specs.AttributeTypes.{REALM, NONCE, PASSWORD_ALGORITHMS}
use Rattle.stun_grammar.specs.Headers.{id_field}
use Rattle.stun_grammar.specs.Writing.{message_encoding}
use Rattle.stun_base.specs.declared.message_class.MessageClass.TheVariants.{Error as ErrorClass}
use Rattle.stun_types.specs.Replies.{error_attribute, response_type}
use Rattle.stun_values.specs.declared.algorithm.PasswordAlgorithmValue.{PasswordAlgorithmValue}
use Rattle.stun_authentication.specs.declared.answer.Refusal.{Refusal}
use Rattle.stun_authentication.specs.declared.answer.Refusal.TheVariants.{BadRequest, Unauthenticated, StaleNonce}
use Rattle.stun_authentication.specs.declared.challenge.ChallengeError.{ChallengeError}
use Rattle.stun_authentication.specs.declared.challenge.ChallengeError.TheVariants.{NoList, NotPromised, TooMany}
use Rattle.stun_authentication.specs.Asking.{Asked, asked_for, listed}
use Rattle.stun_authentication.specs.Answers.{refusal_code, refusal_reason}
use Rattle.stun_authentication.specs.Cookies.{promises_algorithms}
use Rattle.stun_authentication.specs.Policies.{is_fingerprinted}
use Rattle.stun_authentication.specs.Writing.{finished, print_steps, step_sizes, sizes}

-- ---- What a client is asked for

-- why a nonce isn't sent with a list, or without one: its cookie says that there is one exactly if
-- there is one (section 9.2.4, the first check)
abbrev pub mismatch : (nonce : List ℕ) → Option (List ℕ) → Option ChallengeError
mismatch nonce list =
    if promises_algorithms nonce
    then (if is_some list then None else Some NoList)
    else (if is_some list then Some NotPromised else None)

-- why a server doesn't ask for this: also if an attribute has no room for the algorithms, four bytes
-- each
abbrev pub challenge_error : (nonce : List ℕ) → List PasswordAlgorithmValue → Option ChallengeError
challenge_error nonce algorithms =
    option_or (mismatch nonce (listed algorithms))
    (if nat_lt 16383 (length algorithms) then Some TooMany else None)

-- PASSWORD-ALGORITHMS, if there is a list
abbrev pub list_attributes : Option (List ℕ) → List Attribute
list_attributes None = []
list_attributes (Some list) = canonical PASSWORD_ALGORITHMS list ∷ []

-- what a 401 and a 438 carry to ask for it
abbrev pub asked_attributes : Asked → List Attribute
asked_attributes asked =
    canonical REALM asked.realm ∷ canonical NONCE asked.nonce ∷ list_attributes asked.list

-- ---- The response

-- what a refusal carries beside its code: a 400 nothing, and under short-term credentials, if
-- nothing is asked for, no refusal anything
abbrev pub carried : Refusal → Option Asked → List Attribute
carried BadRequest asked = []
carried Unauthenticated None = []
carried Unauthenticated (Some asked) = asked_attributes asked
carried StaleNonce None = []
carried StaleNonce (Some asked) = asked_attributes asked

-- the attributes of the response, before a FINGERPRINT
abbrev pub refusal_attributes : Refusal → Option Asked → List Attribute
refusal_attributes refusal asked =
    error_attribute (refusal_code refusal) (refusal_reason refusal) ∷ carried refusal asked

-- the response to r, with a FINGERPRINT if r has one
abbrev pub refusal_of : List ℕ → Refusal → Option Asked → List ℕ
refusal_of r refusal asked =
    let kind = response_type ErrorClass r in
    let id = id_field r in
    message_encoding kind id
    (finished (is_fingerprinted r) kind id (refusal_attributes refusal asked))

-- the lengths of the values of its attributes
abbrev pub refusal_sizes : List ℕ → Refusal → Option Asked → List ℕ
refusal_sizes r refusal asked =
    sizes (refusal_attributes refusal asked) ++ step_sizes (print_steps (is_fingerprinted r))

-- the 401 to r by long-term credentials that asks for a login in a realm, by a nonce and algorithms
abbrev pub login_asked : List ℕ → (realm nonce : List ℕ) → List PasswordAlgorithmValue → List ℕ
login_asked r realm nonce algorithms =
    refusal_of r Unauthenticated (Some (asked_for realm nonce (listed algorithms)))
