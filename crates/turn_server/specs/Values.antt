-- The values of the attributes that a request shows, each by the first one of its type.
use Rattle.std.specs.Prelude.{ℕ, Bool, false, not, List, length, slice_index, Option, ◌==◌}
use Rattle.std.specs.Option.{option_map, option_map_or}
use Rattle.stun_grammar.specs.Numbers.{number}
use Rattle.stun_authentication.specs.Identities.{value_of}

-- whether d shows a value of another length than its type has
abbrev pub malformed : (width type : ℕ) → List ℕ → Bool
malformed width type d = option_map_or (λ value. not (length value == width)) (value_of d type) false

-- a value as a number
abbrev pub number_in : (type : ℕ) → List ℕ → Option ℕ
number_in type d = option_map number (value_of d type)

-- the first byte of a value, which holds a protocol, a family or a bit, if the others are reserved
abbrev pub byte_in : (type : ℕ) → List ℕ → Option ℕ
byte_in type d = option_map (λ value. slice_index value 0) (value_of d type)
