-- Reading the type and the value of an attribute is reading its value.
use Rattle.std.proofs.Common.{ℕ, List, refl, inl, inr}
use Rattle.std.specs.Prelude.{◌⊎◌, Result}
use Rattle.stun_grammar.specs.declared.error.StunParseError.{StunParseError}
use Rattle.stun_attributes.specs.Reading.{ReadsTyped}

pub own_value : {A : Type 0} (wanted : ℕ) (reads_value : List ℕ → Result A StunParseError → Type 0) (value : List ℕ) (result : Result A StunParseError)
    → ReadsTyped wanted reads_value wanted value result ⊎ ReadsTyped wanted reads_value wanted value result → reads_value value result
own_value wanted reads_value value result (inl reported) = reported.0 refl
own_value wanted reads_value value result (inr reported) = reported.0 refl
