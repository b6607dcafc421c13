-- What a forged message gives away (RFC 8489, sections 14.5, 14.6 and 16.1).
use Rattle.std.specs.Prelude.{◌≡◌, ℕ, ◌≤◌, ◌⊎◌, Bool, List, length, take, Option, IsSomeAnd}
use Rattle.std.specs.Option.{option_map}
use Rattle.stun_grammar.specs.declared.integrity_algorithm.IntegrityAlgorithm.{IntegrityAlgorithm}
use Rattle.stun_grammar.specs.Authentic.{content_through}
use Rattle.stun_grammar.specs.Hmac.{hmac}
use Rattle.stun_grammar.specs.Origin.{IsUnsigned, ComesFrom}
use Rattle.stun_grammar.specs.Sending.{Sent}
use Rattle.stun_grammar.specs.Verdicts.{algorithm_of, covered_bytes, is_checked_type, last_shown}

-- what an integrity attribute says: that its value is the HMAC of these bytes, by this algorithm
pub record Claim : Type 0 where
  pub covered : List ℕ
  pub value : List ℕ
  pub algorithm : IntegrityAlgorithm

-- what the attribute of d says that is checked: a function of d alone, which takes no key
abbrev pub claim : (ℕ → Bool) → List ℕ → Option Claim
claim wanted d =
    option_map
    (λ x. record {
      covered = covered_bytes d x.offset (length x.value);
      value = x.value;
      algorithm = algorithm_of x.type;
    })
    (last_shown wanted d)

-- it is true: the value has at least sixteen bytes, and they are the first of the HMAC under the key
pub record IsTrueOf (key : List ℕ) (claim : Claim) : Type 0 where
  pub long : 16 ≤ length claim.value
  pub right : claim.value ≡ take (length claim.value) (hmac claim.algorithm key claim.covered)

-- it is true of bytes that were signed in no message that was sent
pub record IsForgery (sent : List Sent) (key : List ℕ) (claim : Claim) : Type 0 where
  pub true_of : IsTrueOf key claim
  pub unsigned : IsUnsigned sent key claim.algorithm claim.covered

-- d claims by the algorithm that validation answered; the claim is a forgery, or the content of d is
-- that of a message that was sent
abbrev pub IsForgedOrSent : Option IntegrityAlgorithm → List Sent → (IntegrityAlgorithm → List ℕ)
    → List ℕ → IntegrityAlgorithm → Type 0
IsForgedOrSent made_for sent key d algorithm =
    IsSomeAnd (claim (is_checked_type made_for) d)
    (λ said. (said.algorithm ≡ algorithm)
    × (IsForgery sent (key algorithm) said
    ⊎ ComesFrom sent (key algorithm) algorithm said.covered
    (content_through (is_checked_type made_for) d)))
