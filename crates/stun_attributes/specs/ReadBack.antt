-- That what is written of an attribute is read as the same attribute.
use Rattle.std.specs.Prelude.{◌≡◌, ℕ, ◌⊎◌, List, Result, IsOkAnd, MatchResult}
use Rattle.stun_grammar.specs.declared.error.StunParseError.{StunParseError}
use Rattle.stun_grammar.specs.declared.error.StunParseError.TheVariants.{OutOfMemory}

-- whatever one of two readers answers to the type and the value of an attribute is as wanted
abbrev pub AnswersOwn : {A : Type 0} → (A → ℕ) → (A → List ℕ)
    → (ℕ → List ℕ → Result A StunParseError → Type 0)
    → (ℕ → List ℕ → Result A StunParseError → Type 0)
    → A → (Result A StunParseError → Type 0) → Type 0
AnswersOwn {A} atype value reads_ref reads attribute Wanted =
    (result : Result A StunParseError)
    → reads_ref (atype attribute) (value attribute) result
    ⊎ reads (atype attribute) (value attribute) result
    → Wanted result

-- the attribute is read back: as Ok of one that is the same
abbrev pub IsReadBack : {A : Type 0} → (A → ℕ) → (A → List ℕ)
    → (ℕ → List ℕ → Result A StunParseError → Type 0)
    → (ℕ → List ℕ → Result A StunParseError → Type 0)
    → A → (A → Type 0) → Type 0
IsReadBack atype value reads_ref reads attribute Same =
    AnswersOwn atype value reads_ref reads attribute (λ result. IsOkAnd result Same)

-- the same, unless out of memory
abbrev pub IsReadBackInMemory : {A : Type 0} → (A → ℕ) → (A → List ℕ)
    → (ℕ → List ℕ → Result A StunParseError → Type 0)
    → (ℕ → List ℕ → Result A StunParseError → Type 0)
    → A → (A → Type 0) → Type 0
IsReadBackInMemory atype value reads_ref reads attribute Same =
    AnswersOwn atype value reads_ref reads attribute
    (λ result. MatchResult result Same (λ e. e ≡ OutOfMemory))

-- the value has one reading: whatever reading its encoding may return is Ok of one that is the same
abbrev pub HasOneReading : {A : Type 0} → (A → List ℕ) → (List ℕ → Result A StunParseError → Type 0)
    → A → (A → Type 0) → Type 0
HasOneReading {A} bytes reads_value value Same =
    (result : Result A StunParseError) → reads_value (bytes value) result → IsOkAnd result Same

-- the same, unless out of memory
abbrev pub HasOneReadingInMemory : {A : Type 0} → (A → List ℕ)
    → (List ℕ → Result A StunParseError → Type 0) → A → (A → Type 0) → Type 0
HasOneReadingInMemory {A} bytes reads_value value Same =
    (result : Result A StunParseError) → reads_value (bytes value) result
    → MatchResult result Same (λ e. e ≡ OutOfMemory)
