-- The algorithms by which passwords are hashed (RFC 8489, sections 14.11, 14.12 and 18.5.1).
use Rattle.std.specs.Prelude.{ℕ, zero, suc, ◌+◌, ◌/◌, ◌%◌, List, [], ◌∷◌, ◌++◌, codes, length, drop, slice_range, Option, Some, None, nat_lt, ◌==◌, if◌then◌else◌}
use Rattle.std.specs.List.{flat_map}
use Rattle.std.specs.Option.{option_or}
use Rattle.stun_grammar.specs.declared.error.StunParseError.{StunParseError}
use Rattle.stun_grammar.specs.declared.error.StunParseError.TheVariants.{Truncated, TooLarge, InvalidAttributeData}
use Rattle.stun_grammar.specs.declared.integrity_algorithm.IntegrityAlgorithm.{IntegrityAlgorithm}
use Rattle.stun_grammar.specs.declared.integrity_algorithm.IntegrityAlgorithm.TheVariants.{Sha1, Sha256}
use Rattle.stun_grammar.specs.AttributeTypes.{PASSWORD_ALGORITHM, PASSWORD_ALGORITHMS}
use Rattle.stun_grammar.specs.Names.{plain_text}
use Rattle.stun_grammar.specs.Numbers.{be16, number}
use Rattle.stun_text.specs.Lists.{with_commas}
use Rattle.stun_values.specs.declared.algorithm.PasswordAlgorithmValue.{PasswordAlgorithmValue}
use Rattle.stun_values.specs.declared.algorithm.PasswordAlgorithmValue.TheVariants.{MD5, SHA256}

-- the number of an algorithm
abbrev pub algorithm_number : PasswordAlgorithmValue → ℕ
algorithm_number MD5 = 1
algorithm_number SHA256 = 2

-- an algorithm in four bytes: its number, and 0 for the length of its parameters
abbrev pub algorithm_encoding : PasswordAlgorithmValue → List ℕ
algorithm_encoding algorithm = be16 (algorithm_number algorithm) ++ be16 0

-- the algorithm by which messages are then signed
abbrev pub integrity_of : PasswordAlgorithmValue → IntegrityAlgorithm
integrity_of MD5 = Sha1
integrity_of SHA256 = Sha256

-- why the four bytes at the start of a value aren't an algorithm: it has parameters, or another
-- number
abbrev pub algorithm_fault : List ℕ → Option StunParseError
algorithm_fault value =
    let kind = number (slice_range value 0 2) in
    let parameters = number (slice_range value 2 4) in
    if parameters == 0 then (
    if kind == 1 then None else (
    if kind == 2 then None else Some InvalidAttributeData))
    else Some (TooLarge 4 (4 + parameters))

-- why a value of n bytes isn't made of entries of four bytes
abbrev pub entries_fault : ℕ → Option StunParseError → Option StunParseError
entries_fault n otherwise =
    if nat_lt n 4 then Some (Truncated 4 n) else (
    if n % 4 == 0 then otherwise else Some InvalidAttributeData)

-- why a value isn't an algorithm; what follows its first four bytes is ignored
abbrev pub one_algorithm_fault : List ℕ → Option StunParseError
one_algorithm_fault value = entries_fault (length value) (algorithm_fault value)

-- the first fault among that many entries
unfoldable pub fault_within : ℕ → List ℕ → Option StunParseError
fault_within zero value = None
fault_within (suc more) value = option_or (algorithm_fault value) (fault_within more (drop 4 value))

-- why a value isn't a list of algorithms: the first of its entries that isn't one
abbrev pub algorithms_fault : List ℕ → Option StunParseError
algorithms_fault value = entries_fault (length value) (fault_within (length value / 4) value)

-- the algorithms, one after the other
abbrev pub algorithms_encoding : List PasswordAlgorithmValue → List ℕ
algorithms_encoding = flat_map algorithm_encoding

-- the algorithm at the start of a value that has no fault
abbrev pub algorithm_at : List ℕ → PasswordAlgorithmValue
algorithm_at value = if number (slice_range value 0 2) == 1 then MD5 else SHA256

-- the algorithms in that many entries, and in a whole value
abbrev pub algorithms_within : ℕ → List ℕ → List PasswordAlgorithmValue
algorithms_within zero value = []
algorithms_within (suc more) value = algorithm_at value ∷ algorithms_within more (drop 4 value)

abbrev pub algorithms_in : List ℕ → List PasswordAlgorithmValue
algorithms_in value = algorithms_within (length value / 4) value

-- ---- How they are printed

-- the name of an algorithm
abbrev pub algorithm_name : PasswordAlgorithmValue → List ℕ
algorithm_name MD5 = codes "MD5"
algorithm_name SHA256 = codes "SHA256"

-- names with a comma and a space between them
abbrev pub algorithm_names : List PasswordAlgorithmValue → List ℕ
algorithm_names = with_commas algorithm_name

-- an algorithm in an attribute, and a list of them, in brackets
abbrev pub algorithm_text : PasswordAlgorithmValue → List ℕ
algorithm_text algorithm = plain_text PASSWORD_ALGORITHM (algorithm_name algorithm)

abbrev pub algorithms_text : List PasswordAlgorithmValue → List ℕ
algorithms_text algorithms =
    plain_text PASSWORD_ALGORITHMS (codes "[" ++ algorithm_names algorithms ++ codes "]")
