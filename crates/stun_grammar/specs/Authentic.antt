-- What an integrity attribute authenticates (RFC 8489, sections 14.5 and 14.6).
use Rattle.std.specs.Prelude.{◌≡◌, ℕ, ◌+◌, ◌-◌, ◌%◌, ◌^◌, Bool, not, List, [], ◌∷◌, ◌++◌, length, drop, take, filter, Some, None, ◌==◌, if◌then◌else◌}
use Rattle.std.specs.List.{list_any}
use Rattle.stun_grammar.specs.declared.integrity_algorithm.IntegrityAlgorithm.{IntegrityAlgorithm}
use Rattle.stun_grammar.specs.Headers.{type_field, length_field, id_field}
use Rattle.stun_grammar.specs.Attributes.{Attribute, canonical, encoding}
use Rattle.stun_grammar.specs.Chains.{Shown, chain, placed}
use Rattle.stun_grammar.specs.AttributeTypes.{FINGERPRINT}
use Rattle.stun_grammar.specs.Showing.{shown}
use Rattle.stun_grammar.specs.Fingerprints.{fingerprint_value}
use Rattle.stun_grammar.specs.Hmac.{hmac}
use Rattle.stun_grammar.specs.Verdicts.{type_of_algorithm, is_checked_type, covered}

-- ---- The content of a message

-- its type, its transaction ID, and attributes
pub record Content : Type 0 where
  pub type : ℕ
  pub id : ℕ
  pub attributes : List Shown

-- type, transaction ID and all attributes shown but a FINGERPRINT
abbrev pub content : List ℕ → Content
content d = record {
  type = type_field d;
  id = id_field d;
  attributes = filter (λ a. not (a.type == FINGERPRINT)) (shown d);
}

-- a list up to and including its last attribute of a wanted type; empty if there is none
unfoldable pub through_last : (ℕ → Bool) → List Shown → List Shown
through_last wanted [] = []
through_last wanted (x ∷ xs) =
    if list_any (λ a. wanted a.type) (x ∷ xs) then x ∷ through_last wanted xs else []

-- type, transaction ID and the attributes shown through the last one of a wanted type
abbrev pub content_through : (ℕ → Bool) → List ℕ → Content
content_through wanted d = record {
  type = type_field d;
  id = id_field d;
  attributes = through_last wanted (shown d);
}

-- whether a FINGERPRINT is shown
abbrev pub shows_fingerprint : List ℕ → Bool
shows_fingerprint d = list_any (λ a. a.type == FINGERPRINT) (shown d)

-- ---- What covered bytes, a key and an algorithm determine

-- how many bytes of HMAC follow covered bytes: modulo 2 ^ 16, their length field counts what
-- follows the header in them, the four bytes of the integrity attribute's header, and the HMAC
abbrev pub stated_hmac_length : List ℕ → ℕ
stated_hmac_length c = (length_field c + (2 ^ 16 - (length c - 16) % 2 ^ 16)) % 2 ^ 16

-- the integrity attribute that follows covered bytes
abbrev pub checked : List ℕ → List ℕ → IntegrityAlgorithm → Attribute
checked c key algorithm =
    canonical (type_of_algorithm algorithm) (take (stated_hmac_length c) (hmac algorithm key c))

-- type, transaction ID and attributes of covered bytes, and then the integrity attribute that
-- follows them
unfoldable pub authentic : List ℕ → List ℕ → IntegrityAlgorithm → Content
authentic c key algorithm = record {
  type = type_field c;
  id = id_field c;
  attributes = placed 20 (chain (drop 20 c)) ++ placed (length c) (checked c key algorithm ∷ []);
}

-- the FINGERPRINT that follows that attribute
unfoldable pub authentic_fingerprint : List ℕ → List ℕ → IntegrityAlgorithm → Shown
authentic_fingerprint c key algorithm =
    let whole = c ++ encoding (checked c key algorithm) in
    record {
      offset = length whole;
      type = FINGERPRINT;
      value = fingerprint_value whole (length whole);
    }

-- all attributes shown, with a FINGERPRINT or without
abbrev pub authentic_shown : List ℕ → List ℕ → IntegrityAlgorithm → Bool → List Shown
authentic_shown c key algorithm fingerprint =
    (authentic c key algorithm).attributes
    ++ (if fingerprint then authentic_fingerprint c key algorithm ∷ [] else [])

-- the content of d is what the bytes determine that its last integrity attribute covers
abbrev pub IsLocal : List ℕ → List ℕ → IntegrityAlgorithm → Type 0
IsLocal d key algorithm =
    (c : List ℕ) × (covered (is_checked_type None) d ≡ Some c)
    × (content d ≡ authentic c key algorithm)
