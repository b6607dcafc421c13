-- What holds of a message if validation returns Ok (RFC 8489, sections 14.5 and 14.6).
use Rattle.std.specs.Prelude.{◌≡◌, ℕ, ◌⊎◌, List, find, Option, Some, None, IfSome, ◌==◌}
use Rattle.std.specs.List.{AllByRecursion}
use Rattle.stun_grammar.specs.declared.integrity_algorithm.IntegrityAlgorithm.{IntegrityAlgorithm}
use Rattle.stun_grammar.specs.Numbers.{IsBytes}
use Rattle.stun_grammar.specs.AttributeTypes.{FINGERPRINT}
use Rattle.stun_grammar.specs.Showing.{shown}
use Rattle.stun_grammar.specs.Verdicts.{is_checked_type, last_shown, covered, Validates}
use Rattle.stun_grammar.specs.Authentic.{content, content_through, authentic, authentic_fingerprint}
use Rattle.stun_grammar.specs.Sending.{Sent, IsEncodableSent}
use Rattle.stun_grammar.specs.Origin.{IsUnsigned, ComesFrom}

-- a FINGERPRINT that d shows is the one that the covered bytes c determine
abbrev pub FingerprintIsAuthentic : (d c key : List ℕ) → IntegrityAlgorithm → Type 0
FingerprintIsAuthentic d c key algorithm =
    IfSome (find (λ x. x.type == FINGERPRINT) (shown d))
    (λ x. x ≡ authentic_fingerprint c key algorithm)

-- d validates with an algorithm: there are covered bytes; they determine type, transaction ID and
-- all attributes shown, except whether a FINGERPRINT is among them; any message with the same
-- covered bytes has the same content; and whatever was sent, either nobody signed the covered
-- bytes, or the content is that of a message in which they were signed
pub record IsAuthentic (key : IntegrityAlgorithm → List ℕ) (d : List ℕ)
    (algorithm : IntegrityAlgorithm) : Type 0 where
  pub covers : (c : List ℕ) × (covered (is_checked_type None) d ≡ Some c)
  pub reported : (c : List ℕ) → covered (is_checked_type None) d ≡ Some c
      → content d ≡ authentic c (key algorithm) algorithm
  pub fingerprint : (c : List ℕ) → covered (is_checked_type None) d ≡ Some c
      → FingerprintIsAuthentic d c (key algorithm) algorithm
  pub same : (c e : List ℕ) → covered (is_checked_type None) d ≡ Some c → IsBytes e
      → Validates None key e c algorithm → content d ≡ content e
  pub origin : (c : List ℕ) (sent : List Sent) → covered (is_checked_type None) d ≡ Some c
      → AllByRecursion IsEncodableSent sent
      → IsUnsigned sent (key algorithm) algorithm c
      ⊎ ComesFrom sent (key algorithm) algorithm c (content d)

-- the same with a key that was made for one algorithm or for none, of what is shown through the
-- attribute that was checked; and of a FINGERPRINT and of all that is shown if no integrity
-- attribute is shown after that one
pub record IsAuthenticThrough (made_for : Option IntegrityAlgorithm)
    (key : IntegrityAlgorithm → List ℕ) (d : List ℕ)
    (algorithm : IntegrityAlgorithm) : Type 0 where
  pub own : IfSome made_for (λ served. algorithm ≡ served)
  pub covers : (c : List ℕ) × (covered (is_checked_type made_for) d ≡ Some c)
  pub reported : (c : List ℕ) → covered (is_checked_type made_for) d ≡ Some c
      → content_through (is_checked_type made_for) d ≡ authentic c (key algorithm) algorithm
  pub fingerprint : (c : List ℕ) → covered (is_checked_type made_for) d ≡ Some c
      → last_shown (is_checked_type None) d ≡ last_shown (is_checked_type made_for) d
      → FingerprintIsAuthentic d c (key algorithm) algorithm
  pub whole : (c : List ℕ) → covered (is_checked_type made_for) d ≡ Some c
      → last_shown (is_checked_type None) d ≡ last_shown (is_checked_type made_for) d
      → content d ≡ authentic c (key algorithm) algorithm
  pub same : (c e : List ℕ) → covered (is_checked_type made_for) d ≡ Some c → IsBytes e
      → Validates made_for key e c algorithm
      → content_through (is_checked_type made_for) d ≡ content_through (is_checked_type made_for) e
  pub origin : (c : List ℕ) (sent : List Sent) → covered (is_checked_type made_for) d ≡ Some c
      → AllByRecursion IsEncodableSent sent
      → IsUnsigned sent (key algorithm) algorithm c
      ⊎ ComesFrom sent (key algorithm) algorithm c (content_through (is_checked_type made_for) d)
