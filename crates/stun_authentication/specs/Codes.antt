-- The code that a response has (RFC 8489, section 14.8).
use Rattle.std.specs.Prelude.{ℕ, Bool, false, ◌||◌, List, Option, None, Some, is_some, ◌==◌, if◌then◌else◌, option_and_then}
use Rattle.stun_grammar.specs.AttributeTypes.{ERROR_CODE}
use Rattle.stun_grammar.specs.Headers.{type_field}
use Rattle.stun_base.specs.declared.message_class.MessageClass.{MessageClass}
use Rattle.stun_base.specs.declared.message_class.MessageClass.TheVariants.{Error as ErrorClass}
use Rattle.stun_base.specs.MessageTypes.{class_of}
use Rattle.stun_values.specs.ErrorValues.{error_fault, reported_code}
use Rattle.stun_types.specs.LookingUp.{nth}

-- the code in the value of an ERROR-CODE: one of 300 to 699, with a reason that is a text
abbrev pub value_code : List ℕ → Option ℕ
value_code value = if is_some (error_fault value) then None else Some (reported_code value)

-- the code in the first ERROR-CODE that d shows
abbrev pub shown_code : List ℕ → Option ℕ
shown_code d = option_and_then (λ a. value_code a.value) (nth d ERROR_CODE 0)

-- the code of an error response
abbrev pub code_by_class : MessageClass → List ℕ → Option ℕ
code_by_class ErrorClass d = shown_code d
code_by_class _ d = None

abbrev pub response_code : List ℕ → Option ℕ
response_code d = code_by_class (class_of (type_field d)) d

-- whether a code is this one
abbrev pub is_code : ℕ → Option ℕ → Bool
is_code n None = false
is_code n (Some code) = code == n

-- whether d asks for credentials, which a server that doesn't know them can't sign
abbrev pub is_challenge : List ℕ → Bool
is_challenge d = is_code 401 (response_code d) || is_code 438 (response_code d)
