-- Whether a type and a length are allowed.
use Rattle.std.specs.Prelude.{ℕ, ◌+◌, ◌-◌, ◌^◌, min, List, length, Option, Some, None, nat_lt, nat_le, if◌then◌else◌}
use Rattle.std.specs.Option.{option_or}
use Rattle.std.specs.declared.ops.Bound.{Bound}
use Rattle.std.specs.declared.ops.Bound.TheVariants.{Included, Excluded, Unbounded}
use Rattle.stun_grammar.specs.declared.error.StunParseError.{StunParseError}
use Rattle.stun_grammar.specs.declared.error.StunParseError.TheVariants.{Truncated, TooLarge}
use Rattle.stun_attributes.specs.Reading.{typed_fault}

-- why a length is below a start: the least length allowed is the bound, or one more if the bound
-- is excluded, but at most the greatest number of 64 bits
abbrev pub start_fault : Bound ℕ → ℕ → Option StunParseError
start_fault (Included least) n = if nat_lt n least then Some (Truncated least n) else None
start_fault (Excluded below) n =
    if nat_le n below then Some (Truncated (min (below + 1) (2 ^ 64 - 1)) n) else None
start_fault Unbounded n = None

-- why a length is above an end: the greatest length allowed is the bound, or one less if the
-- bound is excluded, but at least 0
abbrev pub end_fault : Bound ℕ → ℕ → Option StunParseError
end_fault (Included most) n = if nat_lt most n then Some (TooLarge most n) else None
end_fault (Excluded above) n = if nat_le above n then Some (TooLarge (above - 1) n) else None
end_fault Unbounded n = None

-- why a length is not within the bounds: the start comes first
abbrev pub bounds_fault : Bound ℕ → Bound ℕ → ℕ → Option StunParseError
bounds_fault start end n = option_or (start_fault start n) (end_fault end n)

-- why a type and a value are not of the wanted type with a length within the bounds
abbrev pub check_fault : ℕ → Bound ℕ → Bound ℕ → ℕ → List ℕ → Option StunParseError
check_fault wanted start end = typed_fault wanted (λ value. bounds_fault start end (length value))
