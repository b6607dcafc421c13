-- Password algorithms in the values of attributes (RFC 8489, sections 14.11, 14.12 and 18.5.1). A
-- value is a chain of entries, each laid out as an attribute is: a number, the length of its
-- parameters, the parameters, and padding.
use Rattle.std.specs.Prelude.{ℕ, List, [], ◌∷◌, length, Option, None, find, ◌==◌, if◌then◌else◌, option_and_then}
use Rattle.std.specs.Option.{option_or}
use Rattle.stun_grammar.specs.Attributes.{Attribute}
use Rattle.stun_grammar.specs.Chains.{chain, first_attribute}
use Rattle.stun_values.specs.declared.algorithm.PasswordAlgorithmValue.{PasswordAlgorithmValue}
use Rattle.stun_values.specs.declared.algorithm.PasswordAlgorithmValue.TheVariants.{MD5, SHA256}
use Rattle.stun_values.specs.Algorithms.{algorithm_number}

-- both algorithms
abbrev pub both : List PasswordAlgorithmValue
both = MD5 ∷ SHA256 ∷ []

-- the one of these algorithms that has a number
abbrev pub numbered : List PasswordAlgorithmValue → ℕ → Option PasswordAlgorithmValue
numbered wanted number = find (λ a. algorithm_number a == number) wanted

-- the one of these algorithms that an entry names, by its number and its parameters: neither MD5
-- nor SHA-256 has any
abbrev pub named_by : List PasswordAlgorithmValue → ℕ → List ℕ → Option PasswordAlgorithmValue
named_by wanted number parameters =
    if length parameters == 0 then numbered wanted number else None

-- the one that the first entry of a value names
abbrev pub first_named : List PasswordAlgorithmValue → List ℕ → Option PasswordAlgorithmValue
first_named wanted value =
    option_and_then (λ entry. named_by wanted entry.type entry.value) (first_attribute value)

-- the one that a PASSWORD-ALGORITHM names (section 14.12): its value is one entry, and nothing
-- follows; without parameters an entry has four bytes
abbrev pub sole_named : List PasswordAlgorithmValue → List ℕ → Option PasswordAlgorithmValue
sole_named wanted value = if length value == 4 then first_named wanted value else None

-- the first of these entries that names one
unfoldable pub first_among : List PasswordAlgorithmValue → List Attribute
    → Option PasswordAlgorithmValue
first_among wanted [] = None
first_among wanted (entry ∷ entries) =
    option_or (named_by wanted entry.type entry.value) (first_among wanted entries)

-- the first entry of a value that names one
abbrev pub first_listed : List PasswordAlgorithmValue → List ℕ → Option PasswordAlgorithmValue
first_listed wanted value = first_among wanted (chain value)
