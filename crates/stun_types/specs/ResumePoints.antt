-- What is known of the place at which a writer resumes a message, and what an add there does
-- (RFC 8489, sections 5 and 14).
use Rattle.std.specs.Prelude.{◌≡◌, ℕ, ◌++◌, List, length, take, drop, Option, None, Some, Result, Ok, Err, MatchOption}
use Rattle.stun_grammar.specs.declared.error.AddError.{AddError}
use Rattle.stun_grammar.specs.declared.error.StunWriteError.{StunWriteError}
use Rattle.stun_grammar.specs.Steps.{Step}
use Rattle.stun_grammar.specs.Adding.{appended, grown_length, add_refusal, any_refusal}
use Rattle.stun_types.specs.declared.writing.resume_point.ResumePoint.{ResumePoint}
use Rattle.stun_types.specs.Resuming.{message_types, resume_fault}
use Rattle.stun_types.specs.Listing.{listed_types}

-- how many bytes of the slice hold the message
abbrev pub resumed_length : ResumePoint → ℕ
resumed_length point = point.written

-- the point is that of the message which so many bytes of this slice hold
pub record IsPointOf (point : ResumePoint) (slice : List ℕ) : Type 0 where
  pub fault : resume_fault slice (resumed_length point) ≡ None
  pub types : listed_types point.listed (take (resumed_length point) slice)
      ≡ message_types (take (resumed_length point) slice)

-- why an attribute of any type is refused by a message in a slice of so many bytes
abbrev pub any_in : ℕ → ℕ → List ℕ → List ℕ → Option AddError
any_in size type value message =
    any_refusal type value (message_types message) (length message) (Some size)

-- why a step is
abbrev pub step_in : ℕ → Step → List ℕ → Option StunWriteError
step_in size step message =
    add_refusal step (message_types message) (length message) (Some size)

-- an attribute of a type and a value is appended to the message in the first `count` bytes of a
-- slice, and the result is how long it is then; or it is refused, and the slice stays. What comes
-- after the message stays
abbrev pub AppendsIn : {E : Type 0} → Option E → ℕ → List ℕ → Result ℕ E → ℕ → List ℕ → List ℕ
    → Type 0
AppendsIn refusal type value result count old new =
    MatchOption refusal
    ((result ≡ Ok (grown_length count (length value)))
    × (new ≡ appended (take count old) type value
    ++ drop (grown_length count (length value)) old))
    (λ e. (result ≡ Err e) × (new ≡ old))
