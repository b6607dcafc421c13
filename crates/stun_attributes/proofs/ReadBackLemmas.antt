-- What is written is read as the same.
use Rattle.std.proofs.Common.{◌≡◌, ℕ, ◌/◌, ◌%◌, ◌*◌, ◌^◌, ◌<◌, false, ltb, List, [], ◌∷◌, length, get_or, drop, take, Option, None, Ok, Err, refl, ap, subst, ◌∙◌, arith, eq-eqb}
use Rattle.std.specs.Prelude.{Result, IsOkAnd, MatchOption, MatchResult}
use Rattle.std.proofs.lemmas.Bool.{le-ltb}
use Rattle.std.proofs.lemmas.Str.{IsUtf8-string_bytes}
use Rattle.stun_grammar.specs.declared.error.StunParseError.{StunParseError}
use Rattle.stun_grammar.specs.declared.error.StunParseError.TheVariants.{OutOfMemory}
use Rattle.stun_values.specs.declared.algorithm.PasswordAlgorithmValue.{PasswordAlgorithmValue}
use Rattle.stun_values.specs.declared.algorithm.PasswordAlgorithmValue.TheVariants.{MD5, SHA256}
use Rattle.stun_attributes.specs.declared.password_algorithm.PasswordAlgorithm.{PasswordAlgorithm}
use Rattle.stun_attributes.specs.declared.password_algorithms.PasswordAlgorithms.{PasswordAlgorithms}
use Rattle.stun_attributes.specs.declared.error_code.ErrorCode.{ErrorCode}
use Rattle.stun_values.specs.Algorithms.{algorithm_encoding, algorithms_encoding, fault_within, one_algorithm_fault, algorithms_fault}
use Rattle.stun_attributes.specs.PasswordAlgorithms.{ReadsAlgorithm, ReadsAlgorithms, held_algorithm, held_algorithms}
use Rattle.stun_values.specs.ErrorValues.{error_value, reported_code, error_fault}
use Rattle.stun_attributes.specs.ErrorCodes.{error_code, error_reason, IsError, ReadsError}
use Rattle.stun_grammar.specs.Lengths.{range_fault}
use Rattle.stun_grammar.specs.declared.attribute_type.AttributeType.{AttributeType}
use Rattle.stun_attributes.specs.declared.unknown_attributes.UnknownAttributes.{UnknownAttributes}
use Rattle.stun_values.specs.TypeLists.{type_encoding, types_encoding, types_fault, AreTypes}
use Rattle.stun_attributes.specs.Unknown.{ReadsTypes, listed}
use Rattle.stun_values.proofs.ListsLemmas.{length_of_entries, length_of_twos}
use Rattle.stun_values.proofs.AlgorithmsLemmas.{algorithm_one}
use Rattle.stun_values.proofs.ErrorValuesLemmas.{tells, is_error}

-- ---- PASSWORD-ALGORITHM

spelling_read : (a : PasswordAlgorithmValue) → one_algorithm_fault (algorithm_encoding a) ≡ None
spelling_read MD5 = refl
spelling_read SHA256 = refl

spelling_taken : (a : PasswordAlgorithmValue) → take 4 (algorithm_encoding a) ≡ algorithm_encoding a
spelling_taken MD5 = refl
spelling_taken SHA256 = refl

read_one : (a : PasswordAlgorithmValue) (result : Result PasswordAlgorithm StunParseError) → IsOkAnd result (λ read. algorithm_encoding (held_algorithm read) ≡ take 4 (algorithm_encoding a))
    → IsOkAnd result (λ read. held_algorithm read ≡ a)
read_one a (Ok read) h = algorithm_one (held_algorithm read) a (h ∙ spelling_taken a)
read_one a (Err e) h = absurd h

pub algorithm_back : (attribute : PasswordAlgorithm) (result : Result PasswordAlgorithm StunParseError)
    → ReadsAlgorithm (algorithm_encoding (held_algorithm attribute)) result → IsOkAnd result (λ read. held_algorithm read ≡ held_algorithm attribute)
algorithm_back attribute result reported =
    let a = held_algorithm attribute in
    read_one a result (subst (λ (o : Option StunParseError). MatchOption o (IsOkAnd result (λ r. algorithm_encoding (held_algorithm r) ≡ take 4 (algorithm_encoding a))) (λ e. result ≡ Err e)) (spelling_read a) reported)

-- ---- PASSWORD-ALGORITHMS

-- a list of algorithms has one spelling
algorithms_one : (xs ys : List PasswordAlgorithmValue) → algorithms_encoding xs ≡ algorithms_encoding ys → xs ≡ ys
algorithms_one [] [] e = refl
algorithms_one [] (MD5 ∷ ys) e = absurd (omega (arith, ap length e))
algorithms_one [] (SHA256 ∷ ys) e = absurd (omega (arith, ap length e))
algorithms_one (MD5 ∷ xs) [] e = absurd (omega (arith, ap length e))
algorithms_one (SHA256 ∷ xs) [] e = absurd (omega (arith, ap length e))
algorithms_one (MD5 ∷ xs) (MD5 ∷ ys) e = ap (λ (zs : List PasswordAlgorithmValue). MD5 ∷ zs) (algorithms_one xs ys (ap (drop 4) e))
algorithms_one (MD5 ∷ xs) (SHA256 ∷ ys) e = let kind : 1 ≡ 2 = ap (λ (l : List ℕ). get_or l 1 0) e in absurd (omega (arith, kind))
algorithms_one (SHA256 ∷ xs) (MD5 ∷ ys) e = let kind : 2 ≡ 1 = ap (λ (l : List ℕ). get_or l 1 0) e in absurd (omega (arith, kind))
algorithms_one (SHA256 ∷ xs) (SHA256 ∷ ys) e = ap (λ (zs : List PasswordAlgorithmValue). SHA256 ∷ zs) (algorithms_one xs ys (ap (drop 4) e))

within_none : (xs : List PasswordAlgorithmValue) → fault_within (length xs) (algorithms_encoding xs) ≡ None
unfolding fault_within
within_none [] = refl
within_none (MD5 ∷ xs) = within_none xs
within_none (SHA256 ∷ xs) = within_none xs

spellings_read : (xs : List PasswordAlgorithmValue) → 0 < length xs → algorithms_fault (algorithms_encoding xs) ≡ None
spellings_read xs some =
    let size = length_of_entries xs in
    let long : ltb (length (algorithms_encoding xs)) 4 ≡ false = le-ltb (length (algorithms_encoding xs)) 4 (omega (arith, size, some)) in
    let fours : length (algorithms_encoding xs) % 4 ≡ 0 = omega (arith, size) in
    let count : length (algorithms_encoding xs) / 4 ≡ length xs = omega (arith, size) in
    rw (long, eq-eqb (length (algorithms_encoding xs) % 4) 0 fours, count) (within_none xs)

read_all : (xs : List PasswordAlgorithmValue) (result : Result PasswordAlgorithms StunParseError) → MatchResult result (λ read. algorithms_encoding (held_algorithms read) ≡ algorithms_encoding xs) (λ e. e ≡ OutOfMemory)
    → MatchResult result (λ read. held_algorithms read ≡ xs) (λ e. e ≡ OutOfMemory)
read_all xs (Ok read) h = algorithms_one (held_algorithms read) xs h
read_all xs (Err e) h = h

pub algorithms_back : (attribute : PasswordAlgorithms) (result : Result PasswordAlgorithms StunParseError) → 0 < length (held_algorithms attribute)
    → ReadsAlgorithms (algorithms_encoding (held_algorithms attribute)) result
    → MatchResult result (λ read. held_algorithms read ≡ held_algorithms attribute) (λ e. e ≡ OutOfMemory)
algorithms_back attribute result some reported =
    let xs = held_algorithms attribute in
    read_all xs result (subst (λ (o : Option StunParseError). MatchOption o (MatchResult result (λ r. algorithms_encoding (held_algorithms r) ≡ algorithms_encoding xs) (λ e. e ≡ OutOfMemory)) (λ e. result ≡ Err e)) (spellings_read xs some) reported)

-- ---- ERROR-CODE

-- the code and the reason of an attribute are written as a value that has no fault and has the code
pub error_written : (attribute : ErrorCode)
    → (error_fault (error_value (error_code attribute) (error_reason attribute)) ≡ None)
    × (reported_code (error_value (error_code attribute) (error_reason attribute)) ≡ error_code attribute)
error_written attribute =
    let written = error_value (error_code attribute) (error_reason attribute) in
    let fits : range_fault 4 767 (length written) ≡ None = rw (le-ltb (length written) 4 (omega arith), le-ltb 767 (length written) (omega (arith, attribute.short))) refl in (
      is_error written fits (tells written (omega (arith, attribute.least)) (omega (arith, attribute.most)) (omega arith)) (IsUtf8-string_bytes attribute.reason),
      omega (arith, attribute.least, attribute.most),
    )

pub error_back : (attribute : ErrorCode) (result : Result ErrorCode StunParseError) → ReadsError (error_value (error_code attribute) (error_reason attribute)) result
    → MatchResult result (IsError (error_code attribute) (error_reason attribute)) (λ e. e ≡ OutOfMemory)
error_back attribute result reported =
    let reason = error_reason attribute in
    let written = error_written attribute in
    subst (λ (k : ℕ). MatchResult result (IsError k reason) (λ e. e ≡ OutOfMemory)) written.1
    (subst (λ (o : Option StunParseError). MatchOption o (MatchResult result (IsError (reported_code (error_value (error_code attribute) reason)) reason) (λ e. e ≡ OutOfMemory)) (λ e. result ≡ Err e)) written.0 reported)

-- ---- UNKNOWN-ATTRIBUTES

type_one : (a b : AttributeType) → a.0 < 2 ^ 16 → b.0 < 2 ^ 16 → type_encoding a ≡ type_encoding b → a ≡ b
type_one a b small same e =
    let high : a.0 / 256 % 256 ≡ b.0 / 256 % 256 = ap (λ (l : List ℕ). get_or l 0 0) e in
    let low : a.0 % 256 ≡ b.0 % 256 = ap (λ (l : List ℕ). get_or l 1 0) e in
    let is : a.0 ≡ b.0 = omega (arith, small, same, high, low) in
    λ i. record { 0 = is i }

-- a list of types has one spelling
types_one : (xs ys : List AttributeType) → AreTypes xs → AreTypes ys → types_encoding xs ≡ types_encoding ys → xs ≡ ys
types_one [] [] small same e = refl
types_one [] (y ∷ ys) small same e = absurd (omega (arith, ap length e))
types_one (x ∷ xs) [] small same e = absurd (omega (arith, ap length e))
types_one (x ∷ xs) (y ∷ ys) small same e =
    let first : x ≡ y = type_one x y small.0 same.0 (ap (take 2) e) in
    let others : xs ≡ ys = types_one xs ys small.1 same.1 (ap (drop 2) e) in
    λ i. first i ∷ others i

even_fault : (xs : List AttributeType) → types_fault (types_encoding xs) ≡ None
even_fault xs = rw (length_of_twos xs, eq-eqb (2 * length xs % 2) 0 (omega arith)) refl

read_types : (xs : List AttributeType) (result : Result UnknownAttributes StunParseError) → AreTypes xs → MatchResult result (λ read. types_encoding (listed read) ≡ types_encoding xs) (λ e. e ≡ OutOfMemory)
    → MatchResult result (λ read. AreTypes (listed read) → listed read ≡ xs) (λ e. e ≡ OutOfMemory)
read_types xs (Ok read) small h = λ each. types_one (listed read) xs each small h
read_types xs (Err e) small h = h

pub types_back : (attribute : UnknownAttributes) (result : Result UnknownAttributes StunParseError) → AreTypes (listed attribute)
    → ReadsTypes (types_encoding (listed attribute)) result
    → MatchResult result (λ read. AreTypes (listed read) → listed read ≡ listed attribute) (λ e. e ≡ OutOfMemory)
types_back attribute result small reported =
    let xs = listed attribute in
    read_types xs result small (subst (λ (o : Option StunParseError). MatchOption o (MatchResult result (λ r. types_encoding (listed r) ≡ types_encoding xs) (λ e. e ≡ OutOfMemory)) (λ e. result ≡ Err e)) (even_fault xs) reported)
