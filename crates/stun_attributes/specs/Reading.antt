-- What reading an attribute from a raw one returns.
use Rattle.std.specs.Prelude.{◌≡◌, ◌≢◌, ℕ, List, length, Option, Some, Result, Err, IsOkAnd, MatchOption, MatchResult, ◌==◌, if◌then◌else◌}
use Rattle.stun_grammar.specs.declared.error.StunParseError.{StunParseError}
use Rattle.stun_grammar.specs.declared.error.StunParseError.TheVariants.{WrongAttributeImplementation, OutOfMemory}
use Rattle.stun_grammar.specs.Lengths.{exact_fault}
use Rattle.stun_grammar.specs.Numbers.{number}

-- why a type and a value are not of the wanted type with a value that has no fault: the type comes
-- first
abbrev pub typed_fault : ℕ → (List ℕ → Option StunParseError) → ℕ → List ℕ → Option StunParseError
typed_fault wanted value_fault type value =
    if type == wanted then value_fault value else Some WrongAttributeImplementation

-- the result is the fault; if there is none it is Ok of what is wanted
abbrev pub Reads : {T : Type 0} → Option StunParseError → (T → Type 0)
    → Result T StunParseError → Type 0
Reads fault Wanted result = MatchOption fault (IsOkAnd result Wanted) (λ e. result ≡ Err e)

-- the result is the fault; if there is none it is Ok of what is wanted, or `OutOfMemory`
abbrev pub ReadsInMemory : {T : Type 0} → Option StunParseError → (T → Type 0)
    → Result T StunParseError → Type 0
ReadsInMemory fault Wanted result =
    MatchOption fault (MatchResult result Wanted (λ e. e ≡ OutOfMemory)) (λ e. result ≡ Err e)

-- an attribute of another type than the wanted one is refused, and the value of one of that type is
-- read as it says
abbrev pub ReadsTyped : {A : Type 0} → (wanted : ℕ) → (List ℕ → Result A StunParseError → Type 0)
    → ℕ → List ℕ → Result A StunParseError → Type 0
ReadsTyped wanted reads_value type value result =
    (type ≡ wanted → reads_value value result)
    × (type ≢ wanted → result ≡ Err WrongAttributeImplementation)

-- a number in so many bytes is read
abbrev pub ReadsNumber : ℕ → List ℕ → Result ℕ StunParseError → Type 0
ReadsNumber width value = Reads (exact_fault width (length value)) (λ read. read ≡ number value)
