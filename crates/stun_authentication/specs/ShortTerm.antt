-- A server's checks by the short-term credential mechanism (RFC 8489, section 9.1.3), row by row as
-- docs/PROTOCOL.md has them. Each condition reads the message, and the key that its user has; the
-- first that holds decides.
use Rattle.std.specs.Prelude.{ℕ, Bool, false, ◌&&◌, not, is_some, List, ◌∷◌, [], Option, option_and_then}
use Rattle.std.specs.Option.{option_map_or}
use Rattle.stun_grammar.specs.AttributeTypes.{USERNAME}
use Rattle.stun_grammar.specs.Headers.{type_field}
use Rattle.stun_base.specs.MessageTypes.{class_of, is_response}
use Rattle.stun_authentication.specs.declared.answer.Refusal.{Refusal}
use Rattle.stun_authentication.specs.declared.answer.Refusal.TheVariants.{BadRequest, Unauthenticated}
use Rattle.stun_authentication.specs.declared.policy.Policy.{Policy}
use Rattle.stun_authentication.specs.Answers.{Decision, discard, not_a_request, rejected, Row, decides, decided, accepted}
use Rattle.stun_authentication.specs.Identities.{value_of, shows, named_in}
use Rattle.stun_authentication.specs.Lookups.{UserKey}
use Rattle.stun_authentication.specs.Policies.{is_taken, is_signed, is_signed_for, proof_with}

-- how d is rejected
abbrev pub reject : List ℕ → Refusal → Decision
reject d refusal = rejected (class_of (type_field d)) refusal

-- the key of the user whom the USERNAME of d names
abbrev pub key_of_username : (keys : List ℕ → Option UserKey) → List ℕ → Option UserKey
key_of_username keys d = option_and_then keys (value_of d USERNAME)

-- the rows before a key is looked up, with the section of each or its check in 9.1.3
abbrev pub rows_of_message : Policy → List ℕ → List Row
rows_of_message policy d =
    -- 1 (6.3): the usage uses FINGERPRINT, and d shows none
    (not (is_taken policy d), discard)
    -- 2 (9.1.4): it is a response
    ∷ (is_response (class_of (type_field d)), not_a_request)
    -- 3 (first check): no integrity attribute counts, or there is no USERNAME
    ∷ (not (is_signed policy d && shows USERNAME d), reject d BadRequest)
    ∷ []

-- those after it
abbrev pub by_key : Policy → Option UserKey → List ℕ → Decision
by_key policy key d =
    decided
    -- 4 (second check): the server has no key for the USERNAME
    ((not (is_some key), reject d Unauthenticated)
    -- 5 (first check): no integrity attribute counts with that key
    ∷ (not (option_map_or (λ found. is_signed_for policy found.made_for d) key false), reject d BadRequest)
    -- 6 (third check): the last that counts is not the HMAC under the key
    ∷ (not (is_some (proof_with policy key d)), reject d Unauthenticated)
    ∷ [])
    -- 7: otherwise; the reply is signed by the same algorithm (the paragraph after the checks)
    (accepted (named_in d) key (proof_with policy key d) (λ algorithm. algorithm))

-- what becomes of d
abbrev pub short_term : Policy → (keys : List ℕ → Option UserKey) → List ℕ → Decision
short_term policy keys d =
    decided (rows_of_message policy d) (by_key policy (key_of_username keys d) d)

-- whether no row decides before a key is looked up
abbrev pub needs_key : Policy → List ℕ → Bool
needs_key policy d = not (decides (rows_of_message policy d))
