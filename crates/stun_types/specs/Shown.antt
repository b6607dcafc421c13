-- How an attribute is shown with a registry.
use Rattle.std.specs.Prelude.{◌≡◌, ℕ, List, [], ◌++◌, length, Option, Some, None, is_some, Result, Ok, Err, IfOk, IfErr, String, ◌⊎◌, if◌then◌else◌}
use Rattle.std.specs.String.{string_bytes}
use Rattle.std.specs.Borrow.{Bor, MutBor}
use Rattle.std.specs.declared.alloc.Global.{Global}
use Rattle.std.specs.declared.fmt.Error.{Error}
use Rattle.std.specs.declared.fmt.Formatter.{Formatter}
use Rattle.std.specs.Fmt.{WritesOnOk, AppendsText, fmt_error}
use Rattle.stun_grammar.specs.declared.error.StunParseError.{StunParseError}
use Rattle.stun_grammar.specs.declared.error.StunParseError.TheVariants.{OutOfMemory}
use Rattle.stun_values.specs.Typed.{is_typed}
use Rattle.stun_base.specs.Data.{is_borrowed}
use Rattle.stun_attributes.specs.declared.wire.raw.RawAttribute.{RawAttribute}
use Rattle.stun_attributes.specs.Raw.{raw_type, raw_data, raw_value}
use Rattle.stun_attributes.specs.PrintedAttributes.{attribute_text, malformed_text}
use Rattle.stun_text.specs.declared.slice.TextTooLong.{TextTooLong}
use Rattle.stun_text.specs.Slices.{laid_over, text_answer}
use Rattle.stun_types.specs.declared.show.registry.Registry.{Registry}
use Rattle.stun_types.specs.declared.show.written.ShowTextError.{ShowTextError}
use Rattle.stun_types.specs.declared.show.written.ShowTextError.TheVariants.{Failed, TooLong}
use Rattle.stun_types.specs.Registered.{registered_display}

-- the text of an attribute by itself
abbrev pub own_text : RawAttribute → List ℕ
own_text raw = attribute_text (raw_type raw) (raw_value raw) (is_borrowed (raw_data raw))

-- what plain `Display` prints of an attribute
abbrev pub displayed : RawAttribute → Option (List ℕ)
displayed raw = Some (own_text raw)

-- the function that prints the attributes of a type: none for a type that has a typed attribute
abbrev pub display_of : {F : Type 0} {g : _} → Registry F g → ℕ → Option F
display_of registry type = if is_typed type then None else registered_display registry type

-- how a call of a function that prints relates the allocator, the attribute, the text before, the
-- answer and the text after
abbrev pub Prints : Type 1
Prints =
    Global → Bor RawAttribute → MutBor (String Global)
    → Result (Unit {0}) Error → MutBor (String Global) → Type 0

-- called on the attribute and an empty text, the function may give this answer and leave this text
pub record Gives (prints : Prints) (raw : RawAttribute) (answer : Result (Unit {0}) Error)
    (text : List ℕ) : Type 0 where
  pub alloc : Global
  pub borrowed : Bor RawAttribute
  pub empty : MutBor (String Global)
  pub full : MutBor (String Global)
  pub borrowed_is : borrowed.now ≡ raw
  pub empty_is : string_bytes empty.now ≡ []
  pub full_is : string_bytes full.now ≡ text
  pub called : prints alloc borrowed empty answer full

-- printing by the function: if it refuses, so does this, with nothing written; and if it
-- accepts, the text that it left is written
abbrev pub ShowsBy : {W : Type 0} → (W → List ℕ → W → Type 0) → Prints → RawAttribute
    → Formatter W → Result (Unit {0}) Error → Formatter W → Type 0
ShowsBy took prints raw before result after =
    ((left : List ℕ) × Gives prints raw (Err fmt_error) left
    × (result ≡ Err fmt_error) × (after ≡ before))
    ⊎ ((text : List ℕ) × Gives prints raw (Ok tt) text
    × WritesOnOk took before result text after)

-- what writing a text to a slice answers
abbrev pub written_answer : Result ℕ TextTooLong → Result ℕ ShowTextError
written_answer (Ok length) = Ok length
written_answer (Err e) = Err (TooLong e)

-- a text is written to a slice, as much of it as there is room for
abbrev pub WritesText : List ℕ → List ℕ → Result ℕ ShowTextError → List ℕ → Type 0
WritesText text before result after =
    (result ≡ written_answer (text_answer (length text) (length before)))
    × (after ≡ laid_over text before)

-- writing to a slice by the function: if it refuses, so does this, and the slice stays; and if it
-- accepts, the text that it left is written
abbrev pub WritesBy : Prints → RawAttribute
    → List ℕ → Result ℕ ShowTextError → List ℕ → Type 0
WritesBy prints raw before result after =
    ((left : List ℕ) × Gives prints raw (Err fmt_error) left
    × (result ≡ Err Failed) × (after ≡ before))
    ⊎ ((text : List ℕ) × Gives prints raw (Ok tt) text × WritesText text before result after)

-- what is printed of an attribute for which no function is registered; of another one nothing is
-- said
abbrev pub shown_text : {F : Type 0} {g : _} → Registry F g → RawAttribute → Option (List ℕ)
shown_text registry raw =
    if is_some (display_of registry (raw_type raw)) then None else displayed raw

-- an attribute whose value is not what its type asks for
abbrev pub malformed : RawAttribute → List ℕ
malformed raw = malformed_text (raw_type raw) (raw_value raw) (is_borrowed (raw_data raw))

-- an attribute was printed by reading it, which was not refused out of memory: if reading
-- accepts, the text of what it read is appended, otherwise that of a malformed attribute
pub record AppendsRead {A : Type 0} (reads : ℕ → List ℕ → Result A StunParseError → Type 0)
    (output : A → Option (List ℕ)) (raw : RawAttribute) (before after : List ℕ) : Type 0 where
  pub read : Result A StunParseError
  pub reads_is : reads (raw_type raw) (raw_value raw) read
  pub accepted : IfOk read (λ attribute. AppendsText before after (output attribute))
  pub refused : IfErr read (λ e. after ≡ before ++ malformed raw)
  pub memory : read ≡ Err OutOfMemory → ⊥
