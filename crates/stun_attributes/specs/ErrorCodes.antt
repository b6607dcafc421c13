-- What an ERROR-CODE and its builder hold, and how an ERROR-CODE is read and made.
use Rattle.std.specs.Prelude.{◌≡◌, ℕ, List, Result, Err, MatchOption, MatchResult, drop}
use Rattle.std.specs.String.{string_bytes}
use Rattle.std.specs.Option.{option_map_or}
use Rattle.stun_grammar.specs.declared.error.StunParseError.{StunParseError}
use Rattle.stun_grammar.specs.declared.error.StunWriteError.{StunWriteError}
use Rattle.stun_grammar.specs.declared.error.StunWriteError.TheVariants.{OutOfMemory}
use Rattle.stun_attributes.specs.Reading.{ReadsInMemory}
use Rattle.stun_values.specs.ErrorValues.{making_fault, reported_code, error_fault}
use Rattle.stun_attributes.specs.DefaultReasons.{default_reason}
use Rattle.stun_attributes.specs.declared.error_code.ErrorCode.{ErrorCode}
use Rattle.stun_attributes.specs.declared.error_code.ErrorCodeBuilder.{ErrorCodeBuilder}

abbrev pub error_code : ErrorCode → ℕ
error_code attribute = attribute.code

abbrev pub error_reason : ErrorCode → List ℕ
error_reason attribute = string_bytes attribute.reason

abbrev pub builder_code : ErrorCodeBuilder → ℕ
builder_code builder = builder.code

-- the reason that was given, or else the one that goes with the code
abbrev pub builder_reason : ErrorCodeBuilder → List ℕ
builder_reason builder =
    option_map_or (λ reason. reason.now) builder.reason (default_reason builder.code)

-- the attribute has this code and this reason
pub record IsError (code : ℕ) (reason : List ℕ) (attribute : ErrorCode) : Type 0 where
  pub code_is : error_code attribute ≡ code
  pub reason_is : error_reason attribute ≡ reason

-- what making one answers: the fault, and if there is none the attribute, unless out of memory
abbrev pub MakesError : ℕ → List ℕ → Result ErrorCode StunWriteError → Type 0
MakesError code reason result =
    MatchOption (making_fault code reason)
    (MatchResult result (IsError code reason) (λ e. e ≡ OutOfMemory))
    (λ e. result ≡ Err e)

-- what reading a value answers
abbrev pub ReadsError : List ℕ → Result ErrorCode StunParseError → Type 0
ReadsError value = ReadsInMemory (error_fault value) (IsError (reported_code value) (drop 4 value))
