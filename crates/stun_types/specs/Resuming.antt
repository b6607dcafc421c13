-- A message that a writer resumes (RFC 8489, sections 5 and 14).
use Rattle.std.specs.Prelude.{◌≡◌, ℕ, ◌+◌, ◌-◌, true, List, [], ◌∷◌, length, take, drop, Option, Some, None, nat_lt, if◌then◌else◌}
use Rattle.std.specs.Option.{option_or}
use Rattle.std.specs.Borrow.{GName}
use Rattle.stun_grammar.specs.declared.error.StunParseError.{StunParseError}
use Rattle.stun_grammar.specs.declared.error.StunParseError.TheVariants.{Truncated}
use Rattle.stun_grammar.specs.Attributes.{encodings, types}
use Rattle.stun_grammar.specs.Chains.{Shown, chain, rest, fault}
use Rattle.stun_grammar.specs.Headers.{is_header}
use Rattle.stun_grammar.specs.ShownOrder.{in_order}
use Rattle.stun_grammar.specs.Showing.{frame_fault}
use Rattle.stun_grammar.specs.Steps.{Step, appended_by}
use Rattle.stun_grammar.specs.Adding.{appended, add_refusal}
use Rattle.stun_types.specs.Writers.{Writer}

-- the types of the attributes after the header of a message, in whichever order
abbrev pub message_types : List ℕ → List ℕ
message_types d = types (chain (drop 20 d))

-- why d is not a header, followed by as many bytes as it states, which are whole attributes
unfoldable pub whole_fault : List ℕ → Option StunParseError
whole_fault d =
    let b = drop 20 d in
    option_or (frame_fault d) (fault (20 + length (encodings (chain b))) (rest b))

-- why no writer can resume a message in the first bytes of a slice, as many as are written
unfoldable pub resume_fault : List ℕ → ℕ → Option StunParseError
resume_fault slice written =
    if nat_lt (length slice) written then Some (Truncated written (length slice)) else
    whole_fault (take written slice)

-- the writer that resumes that message: its attributes count as written, and sixteen more need
-- no memory
pub record IsResumed (w : Writer) (slice : List ℕ) (written : ℕ) (name : GName) : Type 0 where
  pub bytes : w.bytes ≡ take written slice
  pub size : length w.bytes ≡ written
  pub header : is_header w.bytes ≡ true
  pub types : w.types ≡ message_types (take written slice)
  pub greatest : w.greatest ≡ Some (length slice)
  pub rest : w.rest ≡ drop written slice
  pub ready_bytes : w.ready_bytes ≡ length slice - written
  pub ready_types : w.ready_types ≡ 16
  pub slice_name : w.slice_name ≡ name

-- ---- Steps on a message that is there

-- a message with what a step appends
abbrev pub after_step : List ℕ → Step → List ℕ
after_step message step =
    let a = appended_by step message in appended message a.type a.value

-- a message after steps, one after the other
unfoldable pub after_steps : List ℕ → List Step → List ℕ
after_steps message [] = message
after_steps message (step ∷ steps) = after_steps (after_step message step) steps

-- a step is accepted after a message, by a writer that takes so many bytes
abbrev pub IsAcceptedIn : Option ℕ → List ℕ → Step → Type 0
IsAcceptedIn greatest message step =
    add_refusal step (message_types message) (length message) greatest ≡ None

-- each of the steps is accepted after those before it
unfoldable pub AreAcceptedIn : Option ℕ → List ℕ → List Step → Type 0
AreAcceptedIn greatest message [] = Unit {0}
AreAcceptedIn greatest message (step ∷ steps) =
    IsAcceptedIn greatest message step × AreAcceptedIn greatest (after_step message step) steps

-- what is shown of an attribute that a step appends to a message: it, if all attributes of
-- the message are shown
abbrev pub shown_more : List ℕ → Step → List Shown
shown_more message step =
    let a = appended_by step message in
    if in_order (message_types message)
    then record { offset = length message; type = a.type; value = a.value } ∷ [] else []
