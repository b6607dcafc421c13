-- What accepted adds write is held, shown and read back.
use Rattle.std.proofs.Common.{◌≡◌, ℕ, ◌^◌, ◌<◌, false, List, [], ◌∷◌, ◌++◌, length, Option, None, Some, Result, Ok, Err, refl, sym, ap, subst, ◌∙◌}
use Rattle.std.specs.Prelude.{IsOk, IsOkAnd}
use Rattle.std.proofs.lemmas.List.{map-append}
use Rattle.stun_grammar.specs.declared.attribute_type.AttributeType.{AttributeType}
use Rattle.stun_grammar.specs.declared.error.StunParseError.{StunParseError}
use Rattle.stun_grammar.specs.declared.error.StunWriteError.{StunWriteError}
use Rattle.stun_grammar.specs.Adding.{appended, add_refusal, IsAddAnswer}
use Rattle.stun_grammar.specs.Attributes.{Attribute, canonical, types}
use Rattle.stun_grammar.specs.AttributeTypes.{IsOrdinary}
use Rattle.stun_grammar.specs.Chains.{Shown}
use Rattle.stun_grammar.specs.Parsing.{parse_fault}
use Rattle.stun_grammar.specs.ScannedOrder.{has}
use Rattle.stun_grammar.specs.Steps.{add, appended_by}
use Rattle.stun_grammar.specs.Writing.{message_encoding}
use Rattle.stun_grammar.proofs.AddingLemmas.{message_more}
use Rattle.stun_grammar.proofs.AddingRefusedLemmas.{accepted_by_any}
use Rattle.stun_grammar.proofs.StepsLemmas.{step_writable, none_writable}
use Rattle.stun_grammar.proofs.WritingLemmas.{parse-message, shown-message}
use Rattle.stun_types.specs.LookingUp.{IsRead}
use Rattle.stun_types.specs.Writers.{Writer, Adds, Allocates, Gains, IsBegun}
use Rattle.stun_types.specs.ReadingBack.{Holds, ShowsFirst}

pub begun_holds : (old new : Writer) (type id : ℕ) → IsBegun old new type id → Holds new type id []
begun_holds old new type id begun = record {
  bytes = begun.bytes;
  types_are = begun.types;
  writable = none_writable type id begun.type_fits begun.id_fits;
}

-- an add that returned Ok was not refused
not_refused : (refusal : Option StunWriteError) (P : Type 0) (result : Result Unit StunWriteError) → IsOk result → IsAddAnswer refusal P result → refusal ≡ None
not_refused None P result ok answer = refl
not_refused (Some e) P (Ok u) ok answer = absurd (cc answer)
not_refused (Some e) P (Err x) ok answer = absurd (cc ok)

gained : (result : Result Unit StunWriteError) (old new : Writer) (type : ℕ) (value : List ℕ) → IsOk result → Adds result old new type value → Gains old new type value
gained (Ok u) old new type value ok adds = adds.ok
gained (Err e) old new type value ok adds = absurd (cc ok)

pub added_holds : (result : Result Unit StunWriteError) (old new : Writer) (type id : ℕ) (before : List Attribute) (atype : ℕ) (value : List ℕ)
    → Holds old type id before → IsOrdinary atype → atype < 2 ^ 16 → length value < 2 ^ 16
    → IsAddAnswer (add_refusal (add atype value) old.types (length old.bytes) old.greatest) (Allocates old (length value)) result
    → Adds result old new atype value → IsOk result → Holds new type id (before ++ canonical atype value ∷ [])
unfolding appended_by
added_holds result old new type id before atype value holds ordinary t v answer adds ok =
    let gains = gained result old new atype value ok adds in
    let free = not_refused (add_refusal (add atype value) old.types (length old.bytes) old.greatest) (Allocates old (length value)) result ok answer in
    let may : add_refusal (add atype value) (types before) (length (message_encoding type id before)) None ≡ None =
    accepted_by_any (add atype value) (types before) (length (message_encoding type id before)) old.greatest
    (sym (ap (λ (ts : List ℕ). add_refusal (add atype value) ts (length old.bytes) old.greatest) holds.types_are ∙ ap (λ (b : List ℕ). add_refusal (add atype value) (types before) (length b) old.greatest) holds.bytes) ∙ free) in
    record {
      bytes = gains.bytes ∙ ap (λ (b : List ℕ). appended b atype value) holds.bytes ∙ message_more type id before atype value t v;
      types_are = gains.types ∙ ap (λ (ts : List ℕ). ts ++ atype ∷ []) holds.types_are ∙ sym (map-append (λ (x : Attribute). x.type) before (canonical atype value ∷ []));
      writable = step_writable type id before (add atype value) holds.writable may (t, v) ordinary;
    }

pub held_parses : (w : Writer) (type id : ℕ) (attributes : List Attribute) → Holds w type id attributes → parse_fault w.bytes ≡ None
held_parses w type id attributes holds = ap parse_fault holds.bytes ∙ parse-message type id attributes holds.writable

pub held_shows : (w : Writer) (type id : ℕ) (before behind : List Attribute) (atype : ℕ) (value : List ℕ)
    → Holds w type id (before ++ canonical atype value ∷ behind) → has atype (types before) ≡ false → ShowsFirst atype value w.bytes
held_shows w type id before behind atype value holds first =
    let attributes = before ++ canonical atype value ∷ behind in
    subst (ShowsFirst atype value) (sym holds.bytes)
    (record { before = before; behind = behind; shows = shown-message type id attributes holds.writable; first = first })

-- what is read is the attribute that was found
pub found_read : {A : Type 0} (type : AttributeType) (reads : ℕ → List ℕ → Result A StunParseError → Type 0) (offset : ℕ) (value : List ℕ) (found : Option Shown) (result : Result A StunParseError)
    → found ≡ Some (record { offset = offset; type = type.0; value = value }) → IsRead type reads found result → reads type.0 value result
found_read type reads offset value found result is read = subst (λ (f : Option Shown). IsRead type reads f result) is read

-- what has one reading is that value
pub one_is : {A : Type 0} (value : A) (result : Result A StunParseError) → IsOkAnd result (λ read. read ≡ value) → result ≡ Ok value
one_is value (Ok read) e = ap Ok e
one_is value (Err x) e = absurd e
