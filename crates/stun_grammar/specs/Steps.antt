-- The steps by which a message is written (RFC 8489, sections 14.5, 14.6 and 14.7).
use Rattle.std.specs.Prelude.{◌≡◌, ℕ, ◌^◌, ◌<◌, Bool, true, false, List, [], ◌∷◌, ◌++◌, length}
use Rattle.stun_grammar.specs.declared.integrity_algorithm.IntegrityAlgorithm.{IntegrityAlgorithm}
use Rattle.stun_grammar.specs.declared.integrity_algorithm.IntegrityAlgorithm.TheVariants.{Sha1, Sha256}
use Rattle.stun_grammar.specs.Attributes.{Attribute, canonical}
use Rattle.stun_grammar.specs.AttributeTypes.{MESSAGE_INTEGRITY, MESSAGE_INTEGRITY_SHA256, FINGERPRINT, IsOrdinary}
use Rattle.stun_grammar.specs.Fingerprints.{fingerprint_value}
use Rattle.stun_grammar.specs.Hmac.{hmac, digest_length}
use Rattle.stun_grammar.specs.Verdicts.{type_of_algorithm, covered_bytes}
use Rattle.stun_grammar.specs.Writing.{message_encoding}

-- one step: an attribute of a type and a value, an integrity attribute of an algorithm with a key or
-- with an HMAC that is given, or a FINGERPRINT
pub data Step : Type 0 where
  add : ℕ → List ℕ → Step
  sign : IntegrityAlgorithm → List ℕ → Step
  sign_given : IntegrityAlgorithm → List ℕ → Step
  finger : Step

-- the length of the value that a step appends
abbrev pub value_length : Step → ℕ
value_length (add type value) = length value
value_length (sign algorithm key) = digest_length algorithm
value_length (sign_given algorithm hmac) = length hmac
value_length finger = 4

-- the bytes that an integrity attribute covers when it is appended to a message
abbrev pub signed_bytes : List ℕ → IntegrityAlgorithm → List ℕ
signed_bytes message algorithm = covered_bytes message (length message) (digest_length algorithm)

-- the value of that attribute: the HMAC of what it covers
abbrev pub integrity_value : List ℕ → List ℕ → IntegrityAlgorithm → List ℕ
integrity_value message key algorithm = hmac algorithm key (signed_bytes message algorithm)

-- the attribute that a step appends to a message
unfoldable pub appended_by : Step → List ℕ → Attribute
appended_by (add type value) message = canonical type value
appended_by (sign algorithm key) message =
    canonical (type_of_algorithm algorithm) (integrity_value message key algorithm)
appended_by (sign_given algorithm hmac) message = canonical (type_of_algorithm algorithm) hmac
appended_by finger message = canonical FINGERPRINT (fingerprint_value message (length message))

-- the attributes of a message before a step, and the one that the step appends
abbrev pub with_step : ℕ → ℕ → List Attribute → Step → List Attribute
with_step type id before step = before ++ appended_by step (message_encoding type id before) ∷ []

-- whether a step appends an integrity attribute
abbrev pub is_signing : Step → Bool
is_signing (add type value) = false
is_signing (sign algorithm key) = true
is_signing (sign_given algorithm hmac) = true
is_signing finger = false

-- a step on a message appends the integrity attribute of an algorithm with a key: one that signs with
-- them, or one that is given that HMAC
abbrev pub SignsAs : Step → List ℕ → IntegrityAlgorithm → List ℕ → Type 0
SignsAs step message algorithm key =
    appended_by step message ≡ appended_by (sign algorithm key) message

-- the types of the attributes that an integrity attribute may not follow
abbrev pub signing_bars : IntegrityAlgorithm → List ℕ
signing_bars Sha1 = MESSAGE_INTEGRITY ∷ MESSAGE_INTEGRITY_SHA256 ∷ FINGERPRINT ∷ []
signing_bars Sha256 = MESSAGE_INTEGRITY_SHA256 ∷ FINGERPRINT ∷ []

-- the types of the attributes that a step may not follow
abbrev pub barring_types : Step → List ℕ
barring_types (add type value) = MESSAGE_INTEGRITY ∷ MESSAGE_INTEGRITY_SHA256 ∷ FINGERPRINT ∷ []
barring_types (sign algorithm key) = signing_bars algorithm
barring_types (sign_given algorithm hmac) = signing_bars algorithm
barring_types finger = FINGERPRINT ∷ []

-- type and length of an added attribute fit in two bytes each, and an HMAC has its algorithm's length
abbrev pub IsEncodable : Step → Type 0
IsEncodable (add type value) = (type < 2 ^ 16) × (length value < 2 ^ 16)
IsEncodable (sign algorithm key) = Unit {0}
IsEncodable (sign_given algorithm hmac) = length hmac ≡ digest_length algorithm
IsEncodable finger = Unit {0}

-- the type of an added attribute is ordinary: the ending ones have steps of their own
abbrev pub IsOrdinaryStep : Step → Type 0
IsOrdinaryStep (add type value) = IsOrdinary type
IsOrdinaryStep (sign algorithm key) = Unit {0}
IsOrdinaryStep (sign_given algorithm hmac) = Unit {0}
IsOrdinaryStep finger = Unit {0}
