-- Lemmas on validating a message.
use Rattle.std.proofs.Common.{◌≡◌, ℕ, ◌%◌, ◌≤◌, Bool, true, false, cond, eqb, ltb, List, length, Option, Some, None, refl, sym, ap, ◌∙◌, arith, ◌⊎◌, inl, inr}
use Rattle.std.specs.Option.{option_or}
use Rattle.stun_grammar.specs.Numbers.{IsBytes}
use Rattle.stun_grammar.specs.Chains.{Shown}
use Rattle.stun_grammar.specs.declared.error.StunParseError.{StunParseError}
use Rattle.stun_grammar.specs.declared.error.StunParseError.TheVariants.{Truncated, TooLarge, InvalidAttributeData, OutOfMemory}
use Rattle.stun_grammar.specs.declared.integrity_algorithm.IntegrityAlgorithm.{IntegrityAlgorithm}
use Rattle.stun_grammar.specs.declared.integrity_algorithm.IntegrityAlgorithm.TheVariants.{Sha1, Sha256}
use Rattle.stun_grammar.specs.Verdicts.{type_of_algorithm, algorithm_of, hmac_fault, is_checked_type}
use Rattle.stun_grammar.specs.Lengths.{range_fault}
use Rattle.stun_grammar.proofs.VerdictsLemmas.{stands}
use Rattle.stun_types.specs.Validating.{IsChecked}

-- ---- The attribute that is checked

-- the attribute's header is after the message's header, and within the message
pub past_header : (m : Option IntegrityAlgorithm) (d : List ℕ) (x : Shown) → IsBytes d → IsChecked m d x → 20 ≤ x.offset
past_header m d x bytes checked = (stands (is_checked_type m) d x bytes checked.last_is).header

pub before_end : (m : Option IntegrityAlgorithm) (d : List ℕ) (x : Shown) → IsBytes d → IsChecked m d x → x.offset ≤ length d
before_end m d x bytes checked = omega (arith, (stands (is_checked_type m) d x bytes checked.last_is).within)

-- the type of an algorithm's attribute determines that algorithm
pub own_algorithm : (algorithm : IntegrityAlgorithm) → algorithm ≡ algorithm_of (type_of_algorithm algorithm)
own_algorithm Sha1 = refl
own_algorithm Sha256 = refl

pub lawful_own : (algorithm : IntegrityAlgorithm) (n : ℕ) → hmac_fault algorithm n ≡ None → hmac_fault (algorithm_of (type_of_algorithm algorithm)) n ≡ None
lawful_own algorithm n e = ap (λ (a : IntegrityAlgorithm). hmac_fault a n) (sym (own_algorithm algorithm)) ∙ e

-- ---- Lengths

reported_if : (b : Bool) (reported : StunParseError) (other : Option StunParseError) → cond b (Some reported) other ≡ Some OutOfMemory → (reported ≡ OutOfMemory) ⊎ (other ≡ Some OutOfMemory)
reported_if true reported other e = inl cc
reported_if false reported other e = inr e

reported_first : (a b : Option StunParseError) → option_or a b ≡ Some OutOfMemory → (a ≡ Some OutOfMemory) ⊎ (b ≡ Some OutOfMemory)
reported_first None b e = inr e
reported_first (Some reported) b e = inl e

range_reported : (least greatest n : ℕ) → range_fault least greatest n ≡ Some OutOfMemory → ⊥
range_reported least greatest n e = elim (reported_if (ltb n least) (Truncated least n) (cond (ltb greatest n) (Some (TooLarge greatest n)) None) e) [
  | inl reported ↦ absurd (cc reported)
  | inr more ↦ elim (reported_if (ltb greatest n) (TooLarge greatest n) None more) [
    | inl reported ↦ absurd (cc reported)
    | inr none ↦ absurd (cc none)
  ]
]

entries_reported : (b : Bool) → cond b None (Some InvalidAttributeData) ≡ Some OutOfMemory → ⊥
entries_reported true e = absurd cc
entries_reported false e = absurd cc

-- a length is never refused as `OutOfMemory`
pub never_memory : (algorithm : IntegrityAlgorithm) (n : ℕ) → hmac_fault algorithm n ≡ Some OutOfMemory → ⊥
unfolding hmac_fault
never_memory Sha1 n e = range_reported 20 20 n e
never_memory Sha256 n e = elim (reported_first (range_fault 16 32 n) (cond (eqb (n % 4) 0) None (Some InvalidAttributeData)) e) [
  | inl range ↦ range_reported 16 32 n range
  | inr fours ↦ entries_reported (eqb (n % 4) 0) fours
]
