-- What validating a message reports to C (RFC 8489, sections 9.1.3, 9.2.4, 14.5 and 14.6).
use Rattle.std.specs.Prelude.{◌≡◌, ◌⊎◌, ℕ, List, length, Option, None, Some, Result, Ok, Err, MatchOption, MatchResult, if◌then◌else◌}
use Rattle.std.specs.Option.{option_map_or}
use Rattle.stun_grammar.specs.declared.integrity_algorithm.IntegrityAlgorithm.{IntegrityAlgorithm}
use Rattle.stun_grammar.specs.declared.error.ValidateError.{ValidateError}
use Rattle.stun_grammar.specs.AttributeTypes.{FINGERPRINT}
use Rattle.stun_grammar.specs.Parsing.{parse_fault}
use Rattle.stun_grammar.specs.Verdicts.{type_of_algorithm, is_checked_type, verdict}
use Rattle.stun_keys.specs.declared.keys.integrity_key.IntegrityKey.{IntegrityKey}
use Rattle.stun_keys.specs.Keys.{key_bytes, key_algorithm}
use Rattle.stun_types.specs.LookingUp.{nth}
use Rattle.stun_authentication.specs.declared.policy.Policy.{Policy}
use Rattle.stun_authentication.specs.Policies.{is_taken, has_least_length, common}
use Rattle.stun_types_c.specs.declared.call_result.CResult.{CResult}
use Rattle.stun_types_c.specs.declared.authentication.CPolicy.{CPolicy}
use Rattle.stun_types_c.specs.declared.validating.Validated.{Validated}
use Rattle.stun_types_c.specs.Authentication.{policy_named}
use Rattle.stun_types_c.specs.Codes.{OK, OUT_OF_MEMORY, BAD_ARGUMENT, NO_KEY, MISSING_ATTRIBUTE, HMAC_TOO_SHORT}
use Rattle.stun_types_c.specs.CResults.{plain, about, counted, parse_result, validate_result}
use Rattle.stun_types_c.specs.Keys.{number_of}

-- ---- What C reads

-- how many bytes the HMAC of an algorithm has in d
abbrev pub hmac_length : IntegrityAlgorithm → List ℕ → ℕ
hmac_length algorithm d =
    option_map_or (λ a. length a.value) (nth d (type_of_algorithm algorithm) 0) 0

-- what C reads if nothing is valid: a call that fails writes this
abbrev pub not_validated : Validated
not_validated = record { algorithm = 0; hmac_length = 0; reserved = 0 }

-- what was checked of d
abbrev pub checked_in : List ℕ → IntegrityAlgorithm → Validated
checked_in d algorithm = record {
  algorithm = number_of algorithm;
  hmac_length = hmac_length algorithm d;
  reserved = 0;
}

-- a call answers no, and nothing is valid
abbrev pub Invalidates : CResult → CResult → Validated → Type 0
Invalidates answer result new = (result ≡ answer) × (new ≡ not_validated)

-- ---- With a key, or a credential

-- a verdict on d as C sees it: what was checked, or why the message isn't valid
abbrev pub TellsVerdict : List ℕ → Result IntegrityAlgorithm ValidateError → CResult
    → Validated → Type 0
TellsVerdict d reported result new =
    MatchResult reported
    (λ algorithm. (result ≡ plain OK) × (new ≡ checked_in d algorithm))
    (λ e. Invalidates (validate_result e) result new)

-- validating d with the key of a handle: why it is no message, or that there is no key, or the
-- verdict
abbrev pub ValidatesWith : Option IntegrityKey → List ℕ → CResult → Validated → Type 0
ValidatesWith held d result new =
    MatchOption (parse_fault d)
    (MatchOption held (Invalidates (plain NO_KEY) result new)
    (λ key. TellsVerdict d
    (verdict (is_checked_type (key_algorithm key)) (λ _. key_bytes key) d) result new))
    (λ e. Invalidates (parse_result e) result new)

-- ---- By a policy

-- the verdict on d with a key, of the attribute that is checked
abbrev pub verdict_of : (checked : Option IntegrityAlgorithm) → IntegrityKey → List ℕ
    → Result IntegrityAlgorithm ValidateError
verdict_of checked key d = verdict (is_checked_type checked) (λ _. key_bytes key) d

-- what a call answers for a verdict on d: the HMAC may be right, and have fewer bytes than are asked for
abbrev pub policy_answer : (min_hmac_length : ℕ) → List ℕ → Result IntegrityAlgorithm ValidateError
    → CResult
policy_answer min_hmac_length d (Ok algorithm) =
    if has_least_length min_hmac_length algorithm d then plain OK
    else counted HMAC_TOO_SHORT min_hmac_length (hmac_length algorithm d)
policy_answer min_hmac_length d (Err e) = validate_result e

abbrev pub policy_reported : (min_hmac_length : ℕ) → List ℕ → Result IntegrityAlgorithm ValidateError
    → Validated
policy_reported min_hmac_length d (Ok algorithm) =
    if has_least_length min_hmac_length algorithm d then checked_in d algorithm else not_validated
policy_reported min_hmac_length d (Err e) = not_validated

-- the verdict of a key on d, which has the FINGERPRINT that the usage uses, by the algorithms that
-- serve both the policy and the key
abbrev pub TellsByPolicy : Policy → IntegrityKey → List ℕ → CResult → Validated → Type 0
TellsByPolicy policy key d result new =
    MatchOption (common policy.algorithm (key_algorithm key))
    (Invalidates (plain BAD_ARGUMENT) result new)
    (λ checked.
    ((result ≡ policy_answer policy.min_hmac_length d (verdict_of checked key d))
    × (new ≡ policy_reported policy.min_hmac_length d (verdict_of checked key d)))
    ⊎ Invalidates (plain OUT_OF_MEMORY) result new)

-- why d isn't looked at further: the usage uses FINGERPRINT, and d shows none
abbrev pub fingerprint_answer : Policy → List ℕ → Option CResult
fingerprint_answer policy d =
    if is_taken policy d then None else Some (about MISSING_ATTRIBUTE FINGERPRINT)

-- the same with whatever message
abbrev pub ValidatesKey : Policy → IntegrityKey → List ℕ → CResult → Validated → Type 0
ValidatesKey policy key d result new =
    MatchOption (fingerprint_answer policy d)
    (TellsByPolicy policy key d result new)
    (λ answer. Invalidates answer result new)

-- validating d by the policy of C's numbers with the key of a handle
abbrev pub ValidatesBy : CPolicy → Option IntegrityKey → List ℕ → CResult → Validated
    → Type 0
ValidatesBy counted held d result new =
    MatchOption (parse_fault d)
    (MatchOption (policy_named counted) (Invalidates (plain BAD_ARGUMENT) result new)
    (λ policy. MatchOption held (Invalidates (plain NO_KEY) result new)
    (λ key. ValidatesKey policy key d result new)))
    (λ e. Invalidates (parse_result e) result new)
