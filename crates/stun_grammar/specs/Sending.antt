-- Messages that are sent: the steps that write them, and the steps that are accepted (RFC 8489,
-- sections 14.5, 14.6 and 14.7).
use Rattle.std.specs.Prelude.{◌≡◌, ℕ, ◌^◌, ◌<◌, List, [], ◌∷◌, length, None}
use Rattle.std.specs.List.{AllByRecursion}
use Rattle.stun_grammar.specs.Attributes.{Attribute, types}
use Rattle.stun_grammar.specs.Writing.{message_encoding}
use Rattle.stun_grammar.specs.Steps.{Step, with_step, IsEncodable, IsOrdinaryStep}
use Rattle.stun_grammar.specs.Adding.{add_refusal}

-- the attributes of a message after steps, if it has these already
unfoldable pub body_from : ℕ → ℕ → List Attribute → List Step → List Attribute
body_from type id before [] = before
body_from type id before (step ∷ steps) = body_from type id (with_step type id before step) steps

-- a message that is sent: its type, its transaction ID, and the steps that write it
pub record Sent : Type 0 where
  pub type : ℕ
  pub id : ℕ
  pub steps : List Step

-- its attributes
abbrev pub body : Sent → List Attribute
body sent = body_from sent.type sent.id [] sent.steps

-- its encoding
abbrev pub sent_encoding : Sent → List ℕ
sent_encoding sent = message_encoding sent.type sent.id (body sent)

-- the encoding of what these steps write
abbrev pub written_by : ℕ → ℕ → List Step → List ℕ
written_by type id steps = message_encoding type id (body_from type id [] steps)

-- ---- The steps that are accepted

-- a step may follow these attributes: a writer that takes any number of bytes does not refuse it
abbrev pub MayFollow : ℕ → ℕ → List Attribute → Step → Type 0
MayFollow type id before step =
    add_refusal step (types before) (length (message_encoding type id before)) None ≡ None

-- each of the steps may follow what the steps before it wrote
unfoldable pub EachMayFollow : ℕ → ℕ → List Attribute → List Step → Type 0
EachMayFollow type id before [] = Unit {0}
EachMayFollow type id before (step ∷ steps) =
    MayFollow type id before step × EachMayFollow type id (with_step type id before step) steps

-- the type has fourteen bits, the transaction ID ninety-six, and types and lengths of attributes
-- fit their fields
pub record IsEncodableSent (sent : Sent) : Type 0 where
  pub type_fits : sent.type < 2 ^ 14
  pub id_fits : sent.id < 2 ^ 96
  pub steps : AllByRecursion IsEncodable sent.steps

-- each added attribute is an ordinary one, and each step is accepted where it is made
pub record IsAccepted (sent : Sent) : Type 0 where
  pub encodable : IsEncodableSent sent
  pub ordinary : AllByRecursion IsOrdinaryStep sent.steps
  pub accepted : EachMayFollow sent.type sent.id [] sent.steps
