-- The algorithms in attributes.
use Rattle.std.specs.Prelude.{◌≡◌, ℕ, List, take, Result}
use Rattle.stun_grammar.specs.declared.error.StunParseError.{StunParseError}
use Rattle.stun_attributes.specs.Reading.{Reads, ReadsInMemory}
use Rattle.stun_values.specs.Algorithms.{algorithm_encoding, algorithms_encoding, one_algorithm_fault, algorithms_fault}
use Rattle.stun_values.specs.declared.algorithm.PasswordAlgorithmValue.{PasswordAlgorithmValue}
use Rattle.stun_attributes.specs.declared.password_algorithm.PasswordAlgorithm.{PasswordAlgorithm}
use Rattle.stun_attributes.specs.declared.password_algorithms.PasswordAlgorithms.{PasswordAlgorithms}

abbrev pub held_algorithm : PasswordAlgorithm → PasswordAlgorithmValue
held_algorithm attribute = attribute.algorithm

abbrev pub held_algorithms : PasswordAlgorithms → List PasswordAlgorithmValue
held_algorithms attribute = attribute.algorithms.items

-- ---- What reading answers

-- the value of a PASSWORD-ALGORITHM
abbrev pub ReadsAlgorithm : List ℕ → Result PasswordAlgorithm StunParseError → Type 0
ReadsAlgorithm value = Reads (one_algorithm_fault value)
    (λ read. algorithm_encoding (held_algorithm read) ≡ take 4 value)

-- the value of a PASSWORD-ALGORITHMS
abbrev pub ReadsAlgorithms : List ℕ → Result PasswordAlgorithms StunParseError → Type 0
ReadsAlgorithms value = ReadsInMemory (algorithms_fault value)
    (λ read. algorithms_encoding (held_algorithms read) ≡ value)
