-- An attribute of a user's own: a number of 32 bits.
use Rattle.std.specs.Prelude.{◌≡◌, ℕ, List, Result, Ok, Err, MatchOption}
use Rattle.std.specs.declared.ops.Bound.TheVariants.{Included}
use Rattle.stun_grammar.specs.declared.error.StunParseError.{StunParseError}
use Rattle.stun_grammar.specs.Numbers.{number}
use Rattle.stun_attributes.specs.Checks.{check_fault}
use Rattle.user_examples.specs.declared.my_attribute.MyAttribute.{MyAttribute}

-- the result of reading a type and a value: if the type is 0x8851 and the value has four bytes,
-- the number that they spell, otherwise the fault
abbrev pub ReadsNumber : ℕ → List ℕ → Result MyAttribute StunParseError → Type 0
ReadsNumber type value result =
    MatchOption (check_fault 0x8851 (Included 4) (Included 4) type value)
    (result ≡ Ok (record { value = number value }))
    (λ e. result ≡ Err e)
