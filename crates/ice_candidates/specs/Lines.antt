-- The attributes of SDP that describe an agent and its candidates (RFC 8839, section 5).
use Rattle.std.specs.Prelude.{ℕ, List, [], ◌∷◌, codes, Option, Some, None, Result, Ok, Err, if◌then◌else◌}
use Rattle.ice_candidates.specs.declared.errors.Wanted.TheVariants as wanted
use Rattle.ice_candidates.specs.declared.errors.Stop.{Stop}
use Rattle.ice_candidates.specs.declared.errors.LineError.{LineError}
use Rattle.ice_candidates.specs.Chars.{is_ice_char, is_option, are}
use Rattle.ice_candidates.specs.Candidates.{Fields}
use Rattle.ice_candidates.specs.Words.{words}
use Rattle.ice_candidates.specs.Fields.{is_word}
use Rattle.ice_candidates.specs.Reading.{◌>>=◌, stop, or_fault, candidate_at, attribute_of, without_type, placed, at_start}

pub data Attribute : Type 0 where
  candidate : Fields → Attribute
  username_fragment : List ℕ → Attribute
  password : List ℕ → Attribute
  options : List (List ℕ) → Attribute
  lite : Attribute
  end_of_candidates : Attribute

-- a value of so many ice-chars
abbrev pub ice_text_at : (least : ℕ) → Stop → List ℕ → Result (List ℕ) Stop
ice_text_at least fault text = if are is_ice_char least 256 text then Ok text else Err fault

-- ice-option-tag 0*(SP ice-option-tag)
abbrev pub options_fault : List (List ℕ) → Option Stop
options_fault [] = None
options_fault (word ∷ others) =
    if is_option word then options_fault others else Some (stop wanted.IceOption (word ∷ others))

-- an attribute with a value: the four of this form
abbrev pub valued : Stop → (name value : List ℕ) → Result Attribute Stop
valued fault name value =
    if is_word (codes "candidate") name
    then (candidate_at (words value) >>= λ c. Ok (candidate c))
    else (
    if is_word (codes "ice-ufrag") name
    then (ice_text_at 4 (at_start wanted.UsernameFragment value) value
    >>= λ text. Ok (username_fragment text))
    else (
    if is_word (codes "ice-pwd") name
    then (ice_text_at 22 (at_start wanted.Password value) value >>= λ text. Ok (password text))
    else (
    if is_word (codes "ice-options") name
    then or_fault (options_fault (words value)) (options (words value))
    else Err fault)))

-- an attribute without a value: the two of this form
abbrev pub plain : Stop → (name : List ℕ) → Result Attribute Stop
plain fault name =
    if is_word (codes "ice-lite") name then Ok lite else (
    if is_word (codes "end-of-candidates") name then Ok end_of_candidates else Err fault)

abbrev pub with_value : Stop → (name : List ℕ) → Option (List ℕ) → Result Attribute Stop
with_value fault name None = plain fault name
with_value fault name (Some value) = valued fault name value

abbrev pub line_of : List ℕ → Result Attribute Stop
line_of line =
    with_value (at_start wanted.Attribute line) (attribute_of line).0 (attribute_of line).1

abbrev pub read_line : List ℕ → Result Attribute LineError
read_line line = placed line (line_of (without_type line))
