-- What the definitions of the grammar give for a message from outside.
use Rattle.std.specs.Prelude.{◌≡◌, ℕ, ◌+◌, ◌-◌, List, [], ◌∷◌, ◌++◌, codes, length, map, take, drop, replicate, slice_range, Option, None, Some, Result, Ok, Err}
use Rattle.std.specs.Option.{option_map_or}
use Rattle.stun_grammar.specs.declared.error.StunParseError.{StunParseError}
use Rattle.stun_grammar.specs.declared.error.StunParseError.TheVariants.{NotStun, Truncated, FingerprintMismatch, MissingAttribute}
use Rattle.stun_grammar.specs.declared.error.StunWriteError.{StunWriteError}
use Rattle.stun_grammar.specs.declared.error.ValidateError.{ValidateError}
use Rattle.stun_grammar.specs.declared.error.ValidateError.TheVariants.{Parse, IntegrityFailed}
use Rattle.stun_grammar.specs.declared.integrity_algorithm.IntegrityAlgorithm.{IntegrityAlgorithm}
use Rattle.stun_grammar.specs.declared.integrity_algorithm.IntegrityAlgorithm.TheVariants.{Sha1, Sha256}
use Rattle.stun_grammar.specs.AttributeTypes.{MESSAGE_INTEGRITY, SOFTWARE}
use Rattle.stun_grammar.specs.Numbers.{be16}
use Rattle.stun_grammar.specs.Headers.{type_field, id_field}
use Rattle.stun_grammar.specs.Attributes.{types}
use Rattle.stun_grammar.specs.Chains.{Shown, chain}
use Rattle.stun_grammar.specs.Fingerprints.{fingerprint_value}
use Rattle.stun_grammar.specs.Showing.{shown}
use Rattle.stun_grammar.specs.Parsing.{parse_fault}
use Rattle.stun_grammar.specs.Writing.{message_encoding}
use Rattle.stun_grammar.specs.Steps.{add, sign, finger}
use Rattle.stun_grammar.specs.Adding.{order_refusal}
use Rattle.stun_grammar.specs.Verdicts.{verdict, covered, is_checked_type}
use Rattle.stun_values.specs.Typed.{value_fault}
use Rattle.standard_vectors.specs.Parameters.{password}
use Rattle.standard_vectors.specs.WrittenMessages.{signed_twice}

-- d parses, has this type, this transaction ID and these attributes, and is their encoding; without
-- its last byte it is rejected
pub record IsRead (d : List ℕ) (type id : ℕ) (attributes : List Shown) : Type 0 where
  pub parses : parse_fault d ≡ None
  pub type_is : type_field d ≡ type
  pub id_is : id_field d ≡ id
  pub shows : shown d ≡ attributes
  pub encoded : message_encoding type id (chain (drop 20 d)) ≡ d
  pub cut : parse_fault (take (length d - 1) d) ≡ Some (Truncated (length d) (length d - 1))

-- what an HMAC-SHA1 in a MESSAGE-INTEGRITY at an offset covers: the message before it, with a length
-- field that counts its 24 bytes
abbrev pub signed_text : List ℕ → ℕ → List ℕ
signed_text d offset = take 2 d ++ (be16 (offset + 24 - 20) ++ slice_range d 4 offset)

-- d is signed with HMAC-SHA1 and this key, by a MESSAGE-INTEGRITY at an offset; validation fails with
-- another key, and with a key for HMAC-SHA256 alone it finds nothing
pub record IsSigned (d : List ℕ) (key : IntegrityAlgorithm → List ℕ) (offset : ℕ) : Type 0 where
  pub validates : verdict (is_checked_type None) key d ≡ Ok Sha1
  pub other_key : verdict (is_checked_type None) (λ _. codes "other") d ≡ Err IntegrityFailed
  pub covers : covered (is_checked_type None) d ≡ Some (signed_text d offset)
  pub not_sha256 : verdict (is_checked_type (Some Sha256)) key d
      ≡ Err (Parse (MissingAttribute (record { 0 = MESSAGE_INTEGRITY })))

-- d has a FINGERPRINT at an offset, with this value; with zeros instead, d is rejected
pub record HasFingerprint (d : List ℕ) (offset : ℕ) (value : List ℕ) : Type 0 where
  pub value_is : fingerprint_value d offset ≡ value
  pub carried : slice_range d (offset + 4) (offset + 8) ≡ value
  pub changed : parse_fault (take (offset + 4) d ++ 0 ∷ 0 ∷ 0 ∷ 0 ∷ []) ≡ Some FingerprintMismatch

-- d parses, shows attributes of these types, and validation with the password returns this
pub record IsAnswered (d : List ℕ) (types : List ℕ)
    (answer : Result IntegrityAlgorithm ValidateError) : Type 0 where
  pub parses : parse_fault d ≡ None
  pub shows : map (λ a. a.type) (shown d) ≡ types
  pub answers : verdict (is_checked_type None) (λ _. password) d ≡ answer

-- d, cut off after n bytes, with a length field that counts them
abbrev pub cut_to : List ℕ → ℕ → List ℕ
cut_to d n = take 2 d ++ (be16 (n - 20) ++ slice_range d 4 n)

-- d, followed by more bytes, which the length field counts too
abbrev pub followed_by : List ℕ → List ℕ → List ℕ
followed_by d more = take 2 d ++ (be16 (length d - 20 + length more) ++ (drop 4 d ++ more))

-- d, with other bytes from an offset on, and then as before
abbrev pub with_bytes : List ℕ → ℕ → List ℕ → List ℕ
with_bytes d offset bytes = take offset d ++ (bytes ++ drop (offset + length bytes) d)

-- d parses, shows these attributes, and validates with the key by an algorithm
pub record IsShown (d : List ℕ) (attributes : List Shown) (key : IntegrityAlgorithm → List ℕ)
    (algorithm : IntegrityAlgorithm) : Type 0 where
  pub parses : parse_fault d ≡ None
  pub shows : shown d ≡ attributes
  pub validates : verdict (is_checked_type None) key d ≡ Ok algorithm

-- the types of the attributes of d
abbrev pub types_of : List ℕ → List ℕ
types_of d = types (chain (drop 20 d))

-- why an ordinary attribute, each integrity attribute and a FINGERPRINT may not follow these
abbrev pub refusals_after : List ℕ → List (Option StunWriteError)
refusals_after types =
    map (λ step. order_refusal step types)
    (add SOFTWARE (codes "other") ∷ sign Sha1 password ∷ sign Sha256 password ∷ finger ∷ [])

-- what the MESSAGE-INTEGRITY-SHA256 of signed_twice covers
abbrev pub text_of_sha256 : List ℕ
text_of_sha256 = take 2 signed_twice ++ (be16 72 ++ slice_range signed_twice 4 56)

-- why values of these lengths are none of a type, whatever their bytes are
abbrev pub lengths_of : ℕ → List ℕ → List (Option StunParseError)
lengths_of type lengths =
    map (λ n. option_map_or (λ fault. fault) (value_fault type (replicate n 0)) (Some NotStun)) lengths
