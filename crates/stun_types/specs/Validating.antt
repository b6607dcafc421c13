-- The attribute that a validation checks (RFC 8489, sections 14.5 and 14.6).
use Rattle.std.specs.Prelude.{◌≡◌, ℕ, List, Option, Some, None, length}
use Rattle.stun_grammar.specs.declared.integrity_algorithm.IntegrityAlgorithm.{IntegrityAlgorithm}
use Rattle.stun_grammar.specs.Chains.{Shown}
use Rattle.stun_grammar.specs.Verdicts.{type_of_algorithm, algorithm_of, is_checked_type, last_shown, hmac_fault}
use Rattle.stun_types.specs.declared.reading.integrity_at.IntegrityAt.{IntegrityAt}

-- an integrity attribute that was read at its offset, as one that is shown
abbrev pub shown_integrity : IntegrityAt → Shown
shown_integrity found =
    record {
      offset = found.offset;
      type = type_of_algorithm found.algorithm;
      value = found.value.now;
    }

-- x is the last attribute shown of the wanted types, and its value has a length that its type
-- allows
pub record IsChecked (made_for : Option IntegrityAlgorithm) (d : List ℕ) (x : Shown) : Type 0 where
  pub last_is : last_shown (is_checked_type made_for) d ≡ Some x
  pub lawful : hmac_fault (algorithm_of x.type) (length x.value) ≡ None

-- d shows an integrity attribute, and the value of the last one has a lawful length
abbrev pub ShowsLawful : List ℕ → Type 0
ShowsLawful d = (x : Shown) × IsChecked None d x
