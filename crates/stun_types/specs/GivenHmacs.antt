-- HMACs that a caller computes, and the bytes that they are of (RFC 8489, sections 14.5 and 14.6).
use Rattle.std.specs.Prelude.{◌≡◌, ℕ, List, [], ◌++◌, length, Option, Some, None}
use Rattle.stun_grammar.specs.declared.integrity_algorithm.IntegrityAlgorithm.{IntegrityAlgorithm}
use Rattle.stun_grammar.specs.declared.integrity_algorithm.IntegrityAlgorithm.TheVariants.{Sha1, Sha256}
use Rattle.stun_grammar.specs.declared.error.StunWriteError.{StunWriteError}
use Rattle.stun_grammar.specs.Hmac.{hmac}
use Rattle.stun_grammar.specs.Steps.{sign, signed_bytes}
use Rattle.stun_grammar.specs.Adding.{add_refusal}
use Rattle.stun_grammar.specs.Verdicts.{is_checked_type, covered}
use Rattle.stun_types.specs.declared.message.hmac.Hmac.{Hmac}
use Rattle.stun_types.specs.declared.message.hmac.Hmac.TheVariants.{Sha1 as OfSha1, Sha256 as OfSha256}
use Rattle.stun_types.specs.declared.message.covered.CoveredText.{CoveredText}
use Rattle.stun_types.specs.declared.message.validate.check.IntegrityCheck.{IntegrityCheck}
use Rattle.stun_types.specs.Writers.{Writer}
use Rattle.stun_types.specs.Validating.{shown_integrity, IsChecked}

-- the algorithm of an HMAC, and its bytes
abbrev pub hmac_algorithm : Hmac → IntegrityAlgorithm
hmac_algorithm (OfSha1 bytes) = Sha1
hmac_algorithm (OfSha256 bytes) = Sha256

abbrev pub hmac_bytes : Hmac → List ℕ
hmac_bytes (OfSha1 bytes) = bytes
hmac_bytes (OfSha256 bytes) = bytes

-- what an HMAC is for an algorithm: its bytes for its own, and none for the other one
abbrev pub given_for : Hmac → IntegrityAlgorithm → List ℕ
given_for (OfSha1 bytes) Sha1 = bytes
given_for (OfSha1 bytes) Sha256 = []
given_for (OfSha256 bytes) Sha1 = []
given_for (OfSha256 bytes) Sha256 = bytes

-- the same, whatever is covered
abbrev pub given : Hmac → IntegrityAlgorithm → List ℕ → List ℕ
given one algorithm c = given_for one algorithm

-- why the integrity attribute of an algorithm is refused by a writer, whatever the key
abbrev pub signing_refusal : Writer → IntegrityAlgorithm → Option StunWriteError
signing_refusal w algorithm = add_refusal (sign algorithm []) w.types (length w.bytes) w.greatest

-- the algorithm of a covered text, and its bytes: the two pieces, joined
abbrev pub text_algorithm : CoveredText → IntegrityAlgorithm
text_algorithm text = text.algorithm

abbrev pub text_bytes : CoveredText → List ℕ
text_bytes text = text.beginning ++ text.rest.now

-- an HMAC is that of a text with the key of its algorithm
abbrev pub IsHmacOf : (IntegrityAlgorithm → List ℕ) → CoveredText → Hmac → Type 0
IsHmacOf key text given =
    let algorithm = text_algorithm text in
    given_for given algorithm ≡ hmac algorithm (key algorithm) (text_bytes text)

-- the text of a check
abbrev pub checked_text : IntegrityCheck → CoveredText
checked_text check = check.text

-- it is the check of the last integrity attribute shown of the wanted types, whose value has a
-- lawful length: the text is what that attribute covers, and has its algorithm
pub record IsCheckOf (made_for : Option IntegrityAlgorithm) (d : List ℕ) (check : IntegrityCheck)
    : Type 0 where
  pub checked : IsChecked made_for d (shown_integrity check.found)
  pub algorithm : text_algorithm (checked_text check) ≡ check.found.algorithm
  pub covers : covered (is_checked_type made_for) d ≡ Some (text_bytes (checked_text check))

-- the integrity attribute of an algorithm isn't refused, and the text is what it covers if it is
-- added to a message
pub record IsNextText (refusal : Option StunWriteError) (message : List ℕ)
    (algorithm : IntegrityAlgorithm) (text : CoveredText) : Type 0 where
  pub accepted : refusal ≡ None
  pub algorithm_is : text_algorithm text ≡ algorithm
  pub covers : text_bytes text ≡ signed_bytes message algorithm
