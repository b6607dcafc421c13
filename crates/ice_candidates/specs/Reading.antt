-- Reading a line from left to right, up to the first word that isn't what is wanted there.
use Rattle.std.specs.Prelude.{◌≡◌, ℕ, ◌-◌, ◌==◌, nat_eq, nat_lt, List, [], ◌∷◌, length, drop, codes, Option, Some, None, ok_or, Result, Ok, Err, if◌then◌else◌}
use Rattle.std.specs.List.{list_all, starts_with, position_or_len, before_first, after_first}
use Rattle.ice_candidates.specs.declared.errors.Wanted.{Wanted}
use Rattle.ice_candidates.specs.declared.errors.Wanted.TheVariants as wanted
use Rattle.ice_candidates.specs.declared.errors.Stop.{Stop}
use Rattle.ice_candidates.specs.declared.errors.LineError.{LineError}
use Rattle.ice_candidates.specs.Chars.{is_visible}
use Rattle.ice_candidates.specs.Candidates.{Place, Kind, Fields}
use Rattle.ice_candidates.specs.Words.{words, first_word, other_words, size_of}
use Rattle.ice_candidates.specs.Fields.{is_word, foundation_of, component_of, protocol_of, priority_of, place_of, port_of, kind_of, is_extension_name}

infixl 10 ◌>>=◌
abbrev pub ◌>>=◌ : {A B : Type 0} → Result A Stop → (A → Result B Stop) → Result B Stop
(Ok x) >>= f = f x
(Err e) >>= f = Err e

-- what a function returned, seen by `view`, is what reading gives
abbrev pub Gives : {X Y E : Type 0} → (X → Y) → Result X E → Result Y E → Type 0
Gives {Y = Y} {E = E} view (Ok x) read = ◌≡◌ {A = Result Y E} read (Ok (view x))
Gives {Y = Y} {E = E} view (Err e) read = ◌≡◌ {A = Result Y E} read (Err e)

-- what is wanted, instead of the words that are left
abbrev pub stop : Wanted → List (List ℕ) → Stop
stop what left = record { left = size_of left; wanted = what }

-- a value, and the words after it
abbrev pub taken : {A : Type 0} → Option A → Stop → List (List ℕ) → Result (A × List (List ℕ)) Stop
taken None fault others = Err fault
taken (Some value) fault others = Ok (value, others)

-- the next word as a field
abbrev pub field : {A : Type 0} → (List ℕ → Option A) → Wanted → List (List ℕ)
    → Result (A × List (List ℕ)) Stop
field of what left = taken (of (first_word left)) (stop what left) (other_words left)

-- SP cand-type
abbrev pub kind_at : List (List ℕ) → Result (Kind × List (List ℕ)) Stop
kind_at left =
    if is_word (codes "typ") (first_word left)
    then field kind_of wanted.Kind (other_words left) else Err (stop wanted.Typ left)

-- [SP rel-addr], rel-addr = "raddr" SP connection-address
abbrev pub some : {A : Type 0} → Result (A × List (List ℕ)) Stop → Result (Option A × List (List ℕ)) Stop
some (Ok x) = Ok (Some x.0, x.1)
some (Err e) = Err e

abbrev pub related_address_at : List (List ℕ) → Result (Option Place × List (List ℕ)) Stop
related_address_at left =
    if is_word (codes "raddr") (first_word left)
    then some (field place_of wanted.RelatedAddress (other_words left)) else Ok (None, left)

-- [SP rel-port], rel-port = "rport" SP port
abbrev pub related_port_at : List (List ℕ) → Result (Option ℕ × List (List ℕ)) Stop
related_port_at left =
    if is_word (codes "rport") (first_word left)
    then some (field port_of wanted.RelatedPort (other_words left)) else Ok (None, left)

-- *(SP cand-extension), cand-extension = extension-att-name SP extension-att-value,
-- extension-att-value = *VCHAR
abbrev pub extensions_fault : List (List ℕ) → Option Stop
extensions_fault [] = None
extensions_fault (name ∷ []) =
    Some (if is_extension_name name then stop wanted.ExtensionValue []
    else stop wanted.ExtensionName (name ∷ []))
extensions_fault (name ∷ value ∷ others) =
    if is_extension_name name
    then (if list_all is_visible value then extensions_fault others
    else Some (stop wanted.ExtensionValue (value ∷ others)))
    else Some (stop wanted.ExtensionName (name ∷ value ∷ others))

abbrev pub pairs_of : List (List ℕ) → List (List ℕ × List ℕ)
pairs_of [] = []
pairs_of (name ∷ []) = []
pairs_of (name ∷ value ∷ others) = (name, value) ∷ pairs_of others

abbrev pub or_fault : {A : Type 0} → Option Stop → A → Result A Stop
or_fault None value = Ok value
or_fault (Some fault) value = Err fault

abbrev pub extensions_at : List (List ℕ) → Result (List (List ℕ × List ℕ)) Stop
extensions_at left = or_fault (extensions_fault left) (pairs_of left)

-- candidate-attribute, after its colon
unfoldable pub candidate_at : List (List ℕ) → Result Fields Stop
candidate_at left = do
  foundation ← field foundation_of wanted.Foundation left
  component ← field component_of wanted.Component foundation.1
  protocol ← field protocol_of wanted.Transport component.1
  priority ← field priority_of wanted.Priority protocol.1
  address ← field place_of wanted.Address priority.1
  port ← field port_of wanted.Port address.1
  kind ← kind_at port.1
  related_address ← related_address_at kind.1
  related_port ← related_port_at related_address.1
  extensions ← extensions_at related_port.1
  Ok (record {
    foundation = foundation.0;
    component = component.0;
    protocol = protocol.0;
    priority = priority.0;
    address = address.0;
    port = port.0;
    kind = kind.0;
    related_address = related_address.0;
    related_port = related_port.0;
    extensions = extensions;
  })

-- a line without the `a=` of SDP
abbrev pub without_type : List ℕ → List ℕ
without_type line = if starts_with nat_eq line (codes "a=") then drop 2 line else line

-- the name of an attribute and its value, which is after a colon
abbrev pub attribute_of : List ℕ → List ℕ × Option (List ℕ)
attribute_of line =
    if nat_lt (position_or_len (λ c. c == 0x3A) line) (length line)
    then (before_first (λ c. c == 0x3A) line, Some (after_first (λ c. c == 0x3A) line))
    else (line, None)

-- the error of a line: where the words begin that are left
abbrev pub line_error : List ℕ → Stop → LineError
line_error line fault = record { offset = length line - fault.left; wanted = fault.wanted }

abbrev pub placed : {A : Type 0} → List ℕ → Result A Stop → Result A LineError
placed line (Ok value) = Ok value
placed line (Err fault) = Err (line_error line fault)

-- a stop at the start of a text
abbrev pub at_start : Wanted → List ℕ → Stop
at_start what text = record { left = length text; wanted = what }

-- the value of the attribute of this name
abbrev pub value_of : (name line : List ℕ) → Result (List ℕ) Stop
value_of name line =
    if is_word name (attribute_of line).0
    then ok_or (attribute_of line).1 (at_start wanted.Attribute line)
    else Err (at_start wanted.Attribute line)

abbrev pub read_candidate : List ℕ → Result Fields LineError
read_candidate line =
    placed line (value_of (codes "candidate") (without_type line) >>= λ value. candidate_at (words value))
