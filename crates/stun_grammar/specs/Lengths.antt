-- Whether a length is allowed.
use Rattle.std.specs.Prelude.{ℕ, Option, Some, None, nat_lt, if◌then◌else◌}
use Rattle.stun_grammar.specs.declared.error.StunParseError.{StunParseError}
use Rattle.stun_grammar.specs.declared.error.StunParseError.TheVariants.{Truncated, TooLarge}

-- why n is not a length from the least to the greatest
abbrev pub range_fault : ℕ → ℕ → ℕ → Option StunParseError
range_fault least greatest n =
    if nat_lt n least then Some (Truncated least n) else
    (if nat_lt greatest n then Some (TooLarge greatest n) else None)

-- why n is not the one length allowed
abbrev pub exact_fault : ℕ → ℕ → Option StunParseError
exact_fault asked n = range_fault asked asked n
