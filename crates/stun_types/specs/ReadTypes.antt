-- By which rule an attribute is read.
use Rattle.std.specs.Prelude.{ℕ, ◌⊎◌, List, Result}
use Rattle.stun_grammar.specs.declared.error.StunParseError.{StunParseError}
use Rattle.stun_attributes.specs.Reading.{ReadsTyped}

-- whatever one of two readers answers to a type and a value, another type than the wanted one is
-- refused, and the value of one of that type is read as the rule says
abbrev pub IsReadBy : {A : Type 0} → (wanted : ℕ)
    → (rule : List ℕ → Result A StunParseError → Type 0)
    → (ℕ → List ℕ → Result A StunParseError → Type 0)
    → (ℕ → List ℕ → Result A StunParseError → Type 0) → Type 0
IsReadBy {A} wanted rule reads_ref reads =
    (type : ℕ) (value : List ℕ) (result : Result A StunParseError)
    → reads_ref type value result ⊎ reads type value result
    → ReadsTyped wanted rule type value result
