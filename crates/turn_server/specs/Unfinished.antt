-- A response that isn't signed yet.
use Rattle.std.specs.Prelude.{◌≡◌, ℕ, List, Option, Result, IfOk}
use Rattle.stun_grammar.specs.declared.error.StunWriteError.{StunWriteError}
use Rattle.stun_grammar.specs.Attributes.{Attribute}
use Rattle.stun_grammar.specs.Headers.{id_field}
use Rattle.stun_grammar.specs.Writing.{message_encoding}
use Rattle.stun_base.specs.declared.message_class.MessageClass.{MessageClass}
use Rattle.stun_types.specs.Replies.{response_type}
use Rattle.stun_types.specs.Writers.{Writer}
use Rattle.stun_authentication.specs.Writing.{FailsFor, IsUnended}

-- a response to r with these attributes is written, and more may follow
pub record IsUnfinished (w : Writer) (greatest : Option ℕ) (class : MessageClass) (r : List ℕ)
    (attributes : List Attribute) : Type 0 where
  pub bytes : w.bytes ≡ message_encoding (response_type class r) (id_field r) attributes
  pub unended : IsUnended w
  pub greatest_is : w.greatest ≡ greatest

-- it is written by what a call returns, or the error is the refusal, or an allocation failed
pub record WritesUnfinished {T : Type 0} (writer : T → Writer) (result : Result T StunWriteError)
    (greatest : Option ℕ) (class : MessageClass) (r : List ℕ) (attributes : List Attribute)
    (refusal : Option StunWriteError) : Type 0 where
  pub ok : IfOk result (λ t. IsUnfinished (writer t) greatest class r attributes)
  pub answer : FailsFor refusal result
