-- A message with one more attribute.
use Rattle.std.proofs.Common.{◌≡◌, ℕ, ◌+◌, ◌-◌, ◌^◌, ◌<◌, ◌≤◌, true, List, [], ◌∷◌, ◌++◌, length, take, drop, refl, sym, ap, ◌∙◌, arith}
use Rattle.std.proofs.lemmas.List.{length-append, length-take, length-drop}
use Rattle.stun_grammar.specs.declared.integrity_algorithm.IntegrityAlgorithm.{IntegrityAlgorithm}
use Rattle.stun_grammar.specs.declared.integrity_algorithm.IntegrityAlgorithm.TheVariants.{Sha1, Sha256}
use Rattle.stun_grammar.specs.Numbers.{be16, padded_length}
use Rattle.stun_grammar.specs.Hmac.{digest_length}
use Rattle.stun_grammar.specs.Attributes.{Attribute, encoding, encodings, canonical}
use Rattle.stun_grammar.specs.Fingerprints.{fingerprint_value}
use Rattle.stun_grammar.specs.Writing.{message_encoding}
use Rattle.stun_grammar.specs.Headers.{is_header}
use Rattle.stun_grammar.proofs.HeadersLemmas.{is_header-long, header_length}
use Rattle.stun_grammar.proofs.WritingLemmas.{length-canonical, length-message, message-more, header-message}
use Rattle.stun_grammar.specs.Adding.{appended, grown_length}

pub appended_length : (message : List ℕ) (type : ℕ) (value : List ℕ) → 4 ≤ length message → type < 2 ^ 16 → length value < 2 ^ 16
    → length (appended message type value) ≡ grown_length (length message) (length value)
unfolding appended
appended_length message type value long t v =
    let behind = drop 4 message ++ encoding (canonical type value) in
    omega (arith, length-take 2 message, length-drop 4 message, length-canonical type value t v, length-append (drop 4 message) (encoding (canonical type value)), length-append (take 2 message) (be16 (grown_length (length message) (length value) - 20) ++ behind))

pub message_more : (type id : ℕ) (attributes : List Attribute) (atype : ℕ) (value : List ℕ) → atype < 2 ^ 16 → length value < 2 ^ 16
    → appended (message_encoding type id attributes) atype value ≡ message_encoding type id (attributes ++ canonical atype value ∷ [])
unfolding appended
message_more type id attributes atype value t v =
    let old = message_encoding type id attributes in
    let field : grown_length (length old) (length value) - 20 ≡ length (encodings attributes) + length (encoding (canonical atype value)) = omega (arith, length-message type id attributes, length-canonical atype value t v) in
    ap (λ (n : ℕ). take 2 old ++ (be16 n ++ (drop 4 old ++ encoding (canonical atype value)))) field ∙ sym (message-more type id attributes (canonical atype value))

-- the value of a FINGERPRINT has four bytes
pub fingerprint_length : (d : List ℕ) (offset : ℕ) → length (fingerprint_value d offset) ≡ 4
unfolding fingerprint_value
fingerprint_length d offset = refl

-- an HMAC needs no padding
pub hmac_padded : (algorithm : IntegrityAlgorithm) → padded_length (digest_length algorithm) ≡ digest_length algorithm
hmac_padded Sha1 = refl
hmac_padded Sha256 = refl

-- the encoding of a message begins with a header
pub encoding_begins : (type id : ℕ) (attributes : List Attribute) → type < 2 ^ 14 → is_header (message_encoding type id attributes) ≡ true
encoding_begins = header-message

pub appended_begins : (message : List ℕ) (type : ℕ) (value : List ℕ) → is_header message ≡ true → is_header (appended message type value) ≡ true
unfolding appended
appended_begins message type value e = go message (header_length message e) e
  where
    go : (d : List ℕ) → 20 ≤ length d → is_header d ≡ true → is_header (appended d type value) ≡ true
    go [] long e = absurd (omega (arith, long))
    go (a ∷ []) long e = absurd (omega (arith, long))
    go (a ∷ b ∷ []) long e = absurd (omega (arith, long))
    go (a ∷ b ∷ c ∷ []) long e = absurd (omega (arith, long))
    go (a ∷ b ∷ c ∷ f ∷ []) long e = absurd (omega (arith, long))
    go (a ∷ b ∷ c ∷ f ∷ g ∷ []) long e = absurd (omega (arith, long))
    go (a ∷ b ∷ c ∷ f ∷ g ∷ h ∷ []) long e = absurd (omega (arith, long))
    go (a ∷ b ∷ c ∷ f ∷ g ∷ h ∷ i ∷ []) long e = absurd (omega (arith, long))
    go (a ∷ b ∷ c ∷ f ∷ g ∷ h ∷ i ∷ j ∷ d) long e =
        is_header-long (appended (a ∷ b ∷ c ∷ f ∷ g ∷ h ∷ i ∷ j ∷ d) type value) (omega (arith, long, length-append d (encoding (canonical type value)))) ∙ sym (is_header-long (a ∷ b ∷ c ∷ f ∷ g ∷ h ∷ i ∷ j ∷ d) long) ∙ e
