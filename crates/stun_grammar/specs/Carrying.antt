-- The messages that carry covered bytes and their HMAC (RFC 8489, sections 14.5 and 14.6).
use Rattle.std.specs.Prelude.{◌≡◌, ◌≢◌, ℕ, ◌≤◌, true, List, [], ◌∷◌, ◌++◌, length, drop, slice_range, None, IfSome}
use Rattle.stun_grammar.specs.declared.integrity_algorithm.IntegrityAlgorithm.{IntegrityAlgorithm}
use Rattle.stun_grammar.specs.declared.integrity_algorithm.IntegrityAlgorithm.TheVariants.{Sha1}
use Rattle.stun_grammar.specs.Numbers.{IsBytes}
use Rattle.stun_grammar.specs.Attributes.{encoding, types}
use Rattle.stun_grammar.specs.Chains.{first_attribute, chain, rest}
use Rattle.stun_grammar.specs.AttributeTypes.{MESSAGE_INTEGRITY_SHA256}
use Rattle.stun_grammar.specs.ShownOrder.{in_order}
use Rattle.stun_grammar.specs.Verdicts.{type_of_algorithm, hmac_fault}
use Rattle.stun_grammar.specs.Authentic.{stated_hmac_length, checked}

-- c is a header and whole attributes, which an integrity attribute may follow; d is c with any
-- length field, then that attribute with the HMAC of c, then any bytes
pub record CarriesPrefix (d c key : List ℕ) (algorithm : IntegrityAlgorithm) : Type 0 where
  pub bytes : IsBytes c
  pub header : 20 ≤ length c
  pub ended : rest (drop 20 c) ≡ []
  pub ordered : in_order (types (chain (drop 20 c)) ++ type_of_algorithm algorithm ∷ []) ≡ true
  pub lawful : hmac_fault algorithm (stated_hmac_length c) ≡ None
  pub field : List ℕ
  pub two : length field ≡ 2
  pub others : List ℕ
  pub whole : d ≡ slice_range c 0 2 ++ (field ++ (drop 4 c
      ++ (encoding (checked c key algorithm) ++ others)))

-- and a MESSAGE-INTEGRITY is not directly followed by a MESSAGE-INTEGRITY-SHA256, which would be
-- checked instead
pub record Carries (d c key : List ℕ) (algorithm : IntegrityAlgorithm) : Type 0 where
  pub carried : CarriesPrefix d c key algorithm
  pub alone : algorithm ≡ Sha1
      → IfSome (first_attribute carried.others) (λ next. next.type ≢ MESSAGE_INTEGRITY_SHA256)
