-- Which messages are taken, which integrity attributes count, and whether they are right (RFC 8489,
-- sections 6.3, 7, 9.1.3, 9.2.4 and 14.6).
use Rattle.std.specs.Prelude.{◌≡◌, ℕ, Bool, true, false, ◌||◌, List, length, Option, Some, None, is_some, Result, Ok, Err, nat_le, if◌then◌else◌, option_and_then}
use Rattle.std.specs.Option.{option_map_or}
use Rattle.stun_grammar.specs.declared.error.ValidateError.{ValidateError}
use Rattle.stun_grammar.specs.declared.integrity_algorithm.IntegrityAlgorithm.{IntegrityAlgorithm}
use Rattle.stun_grammar.specs.declared.integrity_algorithm.IntegrityAlgorithm.TheVariants.{Sha1, Sha256}
use Rattle.stun_grammar.specs.AttributeTypes.{MESSAGE_INTEGRITY_SHA256, FINGERPRINT}
use Rattle.stun_grammar.specs.Verdicts.{type_of_algorithm, is_checked_type, verdict}
use Rattle.stun_keys.specs.declared.keys.integrity_key.IntegrityKey.{IntegrityKey}
use Rattle.stun_keys.specs.Keys.{serves, IsKey}
use Rattle.stun_types.specs.LookingUp.{nth}
use Rattle.stun_authentication.specs.declared.policy.Policy.{Policy}
use Rattle.stun_authentication.specs.Lookups.{UserKey}

-- whether d shows a FINGERPRINT
abbrev pub is_fingerprinted : List ℕ → Bool
is_fingerprinted d = is_some (nth d FINGERPRINT 0)

-- whether d is taken: with a FINGERPRINT, if the usage uses them (sections 6.3 and 7)
abbrev pub is_taken : Policy → List ℕ → Bool
is_taken policy d = if policy.fingerprint then is_fingerprinted d else true

-- whether d shows the integrity attribute of an algorithm
abbrev pub shows_integrity : IntegrityAlgorithm → List ℕ → Bool
shows_integrity algorithm d = is_some (nth d (type_of_algorithm algorithm) 0)

-- which algorithms two choices of one or both (None) have in common; none if they have none
abbrev pub common : (one other : Option IntegrityAlgorithm) → Option (Option IntegrityAlgorithm)
common None other = Some other
common (Some algorithm) other = if serves other algorithm then Some (Some algorithm) else None

-- whether d shows that of the algorithm that serves, or of one of both
abbrev pub shows_served : Option IntegrityAlgorithm → List ℕ → Bool
shows_served None d = shows_integrity Sha1 d || shows_integrity Sha256 d
shows_served (Some algorithm) d = shows_integrity algorithm d

-- which algorithms serve both the policy and a key that was made for one, or works with both (None):
-- one of them or both; none if there is none
abbrev pub counted : Policy → (made_for : Option IntegrityAlgorithm)
    → Option (Option IntegrityAlgorithm)
counted policy made_for = common policy.algorithm made_for

-- whether d shows an integrity attribute that counts with a key: its algorithm serves the policy, and
-- the key
abbrev pub is_signed_for : Policy → (made_for : Option IntegrityAlgorithm) → List ℕ → Bool
is_signed_for policy made_for d =
    option_map_or (λ served. shows_served served d) (counted policy made_for) false

-- whether d shows one that counts with some key
abbrev pub is_signed : Policy → List ℕ → Bool
is_signed policy d = shows_served policy.algorithm d

-- whether the HMAC of this algorithm has at least so many bytes in d: only that of a
-- MESSAGE-INTEGRITY-SHA256 may be cut (section 14.6)
abbrev pub has_least_length : ℕ → IntegrityAlgorithm → List ℕ → Bool
has_least_length min_hmac_length Sha1 d = true
has_least_length min_hmac_length Sha256 d =
    option_map_or (λ a. nat_le min_hmac_length (length a.value)) (nth d MESSAGE_INTEGRITY_SHA256 0) false

-- whether it has as many as the policy asks for
abbrev pub is_long_enough : Policy → IntegrityAlgorithm → List ℕ → Bool
is_long_enough policy algorithm d = has_least_length policy.min_hmac_length algorithm d

-- what a validation of d answers with a key, by the algorithms that count: of their attribute, and of
-- MESSAGE-INTEGRITY-SHA256 if both do
abbrev pub validated : (served : Option IntegrityAlgorithm) → List ℕ → List ℕ
    → Result IntegrityAlgorithm ValidateError
validated served key d = verdict (is_checked_type served) (λ _. key) d

-- the algorithm that it answers, where the HMAC has at least so many bytes
abbrev pub proved_at : (min_hmac_length : ℕ) → List ℕ → Result IntegrityAlgorithm ValidateError
    → Option IntegrityAlgorithm
proved_at min_hmac_length d (Ok algorithm) =
    if has_least_length min_hmac_length algorithm d then Some algorithm else None
proved_at min_hmac_length d (Err e) = None

-- the same, where it has as many as the policy asks for
abbrev pub proved_by : Policy → List ℕ → Result IntegrityAlgorithm ValidateError
    → Option IntegrityAlgorithm
proved_by policy d answer = proved_at policy.min_hmac_length d answer

-- the algorithm whose HMAC in d is right under the key, if it counts
abbrev pub proof_of : Policy → UserKey → List ℕ → Option IntegrityAlgorithm
proof_of policy key d =
    option_and_then (λ served. proved_by policy d (validated served key.bytes d))
    (counted policy key.made_for)

-- the same, if there is a key
abbrev pub proof_with : Policy → Option UserKey → List ℕ → Option IntegrityAlgorithm
proof_with policy key d = option_and_then (λ found. proof_of policy found d) key

-- the algorithm, and the same key; or there is neither
abbrev pub Proves : UserKey → Option IntegrityAlgorithm → Option (IntegrityKey × IntegrityAlgorithm)
    → Type 0
Proves key None found = found ≡ None
Proves key (Some algorithm) (Some found) =
    IsKey key.made_for key.bytes found.0 × (found.1 ≡ algorithm)
Proves key (Some algorithm) None = ⊥
