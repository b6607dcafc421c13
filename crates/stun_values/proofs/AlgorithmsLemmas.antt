-- Algorithms in entries of four bytes.
use Rattle.std.proofs.Common.{◌≡◌, ℕ, zero, suc, ◌+◌, ◌-◌, ◌*◌, ◌/◌, ◌%◌, ◌<◌, ◌≤◌, List, [], ◌∷◌, ◌++◌, length, get_or, take, drop, slice_range, Option, Some, None, refl, sym, ap, ◌∙◌, arith, eq-eqb, take-add, inl, inr}
use Rattle.std.proofs.lemmas.Bool.{le-ltb}
use Rattle.std.proofs.lemmas.Bool.Decides.{eqb_tells}
use Rattle.stun_grammar.specs.declared.error.StunParseError.{StunParseError}
use Rattle.stun_grammar.specs.Numbers.{be16, number, IsBytes}
use Rattle.stun_grammar.proofs.NumbersLemmas.{IsBytes-from, IsBytes-get, IsBytes-take, IsBytes-drop, be16-number}
use Rattle.std.proofs.lemmas.List.{length-take, length-drop, drop-drop, take-append-drop}
use Rattle.std.proofs.lemmas.List.Concat.{flat_map-cons}
use Rattle.std.specs.Option.{option_or}
use Rattle.stun_values.specs.declared.algorithm.PasswordAlgorithmValue.{PasswordAlgorithmValue}
use Rattle.stun_values.specs.declared.algorithm.PasswordAlgorithmValue.TheVariants.{MD5, SHA256}
use Rattle.stun_values.specs.Algorithms.{algorithm_number, algorithm_encoding, algorithms_encoding, algorithm_fault, one_algorithm_fault, algorithms_fault, fault_within, algorithm_at, algorithms_within, algorithms_in}

-- the four bytes that spell an algorithm's number and no parameters
pub spelled : (value : List ℕ) (algorithm : PasswordAlgorithmValue) → 4 ≤ length value → ((k : ℕ) → get_or value k 0 < 256) → number (slice_range value 0 2) ≡ algorithm_number algorithm
    → number (slice_range value 2 4) ≡ 0 → algorithm_encoding algorithm ≡ take 4 value
spelled value algorithm long small kind parameters =
    let bytes = IsBytes-from value small in
    let first : be16 (algorithm_number algorithm) ≡ take 2 value = be16-number (take 2 value) (algorithm_number algorithm) (omega (arith, length-take 2 value)) (IsBytes-take 2 value bytes) kind in
    let second : be16 0 ≡ take 2 (drop 2 value) = be16-number (take 2 (drop 2 value)) 0 (omega (arith, length-take 2 (drop 2 value), length-drop 2 value)) (IsBytes-take 2 (drop 2 value) (IsBytes-drop 2 value bytes)) parameters in
    (λ i. first i ++ second i) ∙ sym (take-add 2 2 value)

-- an algorithm has one spelling
pub algorithm_one : (a b : PasswordAlgorithmValue) → algorithm_encoding a ≡ algorithm_encoding b → a ≡ b
algorithm_one MD5 MD5 e = refl
algorithm_one MD5 SHA256 e = let kind : 1 ≡ 2 = ap (λ (l : List ℕ). get_or l 1 0) e in absurd (omega (arith, kind))
algorithm_one SHA256 MD5 e = let kind : 2 ≡ 1 = ap (λ (l : List ℕ). get_or l 1 0) e in absurd (omega (arith, kind))
algorithm_one SHA256 SHA256 e = refl

-- ---- entries

pub one_fault : (value : List ℕ) → 4 ≤ length value → length value % 4 ≡ 0 → one_algorithm_fault value ≡ algorithm_fault value
one_fault value long fours = rw (le-ltb (length value) 4 long, eq-eqb (length value % 4) 0 fours) refl

pub list_fault : (value : List ℕ) → 4 ≤ length value → length value % 4 ≡ 0 → algorithms_fault value ≡ fault_within (length value / 4) value
list_fault value long fours = rw (le-ltb (length value) 4 long, eq-eqb (length value % 4) 0 fours) refl

next_is : (more : ℕ) (value : List ℕ) → algorithm_fault value ≡ None → fault_within (suc more) value ≡ fault_within more (drop 4 value)
unfolding fault_within
next_is more value none = ap (λ (o : Option StunParseError). option_or o (fault_within more (drop 4 value))) none

first_is : (more : ℕ) (value : List ℕ) (e : StunParseError) → algorithm_fault value ≡ Some e → fault_within (suc more) value ≡ Some e
unfolding fault_within
first_is more value e some = ap (λ (o : Option StunParseError). option_or o (fault_within more (drop 4 value))) some

-- the next entry has no fault
pub each_next : (n i : ℕ) (value : List ℕ) → i < n → algorithm_fault (drop (4 * i) value) ≡ None → fault_within n value ≡ fault_within (n - i) (drop (4 * i) value)
    → fault_within n value ≡ fault_within (n - (i + 1)) (drop (4 * (i + 1)) value)
each_next n i value more none so_far =
    let count : n - i ≡ suc (n - (i + 1)) = omega arith in
    let place : 4 * i + 4 ≡ 4 * (i + 1) = omega arith in
    so_far ∙ ap (λ (k : ℕ). fault_within k (drop (4 * i) value)) count ∙ next_is (n - (i + 1)) (drop (4 * i) value) none
    ∙ ap (fault_within (n - (i + 1))) (drop-drop 4 (4 * i) value ∙ ap (λ (k : ℕ). drop k value) place)

-- the next entry has one
pub each_fault : (n i : ℕ) (value : List ℕ) (e : StunParseError) → i < n → algorithm_fault (drop (4 * i) value) ≡ Some e → fault_within n value ≡ fault_within (n - i) (drop (4 * i) value)
    → fault_within n value ≡ Some e
each_fault n i value e more some so_far =
    let count : n - i ≡ suc (n - (i + 1)) = omega arith in
    so_far ∙ ap (λ (k : ℕ). fault_within k (drop (4 * i) value)) count ∙ first_is (n - (i + 1)) (drop (4 * i) value) e some

-- no entry is left
pub each_done : (n i : ℕ) (value : List ℕ) → n ≤ i → fault_within n value ≡ fault_within (n - i) (drop (4 * i) value) → fault_within n value ≡ None
unfolding fault_within
each_done n i value done so_far =
    let count : n - i ≡ 0 = omega arith in
    so_far ∙ ap (λ (k : ℕ). fault_within k (drop (4 * i) value)) count

none_first : (o p : Option StunParseError) → option_or o p ≡ None → (o ≡ None) × (p ≡ None)
none_first None p e = (refl, e)
none_first (Some x) p e = absurd cc

none_within : (more : ℕ) (value : List ℕ) → fault_within (suc more) value ≡ None → (algorithm_fault value ≡ None) × (fault_within more (drop 4 value) ≡ None)
unfolding fault_within
none_within more value none = none_first (algorithm_fault value) (fault_within more (drop 4 value)) none

-- if there is no fault, no entry has one
pub each_none : (n i : ℕ) (value : List ℕ) → i < n → fault_within n value ≡ None → algorithm_fault (drop (4 * i) value) ≡ None
each_none zero i value more none = absurd (omega arith)
each_none (suc n) zero value more none = (none_within n value none).0
each_none (suc n) (suc i) value more none =
    let place : 4 + 4 * i ≡ 4 * suc i = omega arith in
    ap (λ (k : ℕ). algorithm_fault (drop k value)) (sym place) ∙ ap algorithm_fault (sym (drop-drop (4 * i) 4 value)) ∙ each_none n i (drop 4 value) (omega arith) (none_within n value none).1

-- ---- the algorithms that are in a value

at_spells : (value : List ℕ) → 4 ≤ length value → IsBytes value → algorithm_fault value ≡ None → algorithm_encoding (algorithm_at value) ≡ take 4 value
at_spells value long bytes none = elim (eqb_tells (number (slice_range value 2 4)) 0) [
  | inl p ↦ elim (eqb_tells (number (slice_range value 0 2)) 1) [
    | inl k ↦ rw (k.0) (spelled value MD5 long (IsBytes-get value bytes) k.1 p.1)
    | inr k ↦ elim (eqb_tells (number (slice_range value 0 2)) 2) [
      | inl s ↦ rw (k.0) (spelled value SHA256 long (IsBytes-get value bytes) s.1 p.1)
      | inr s ↦ let refused = rw (p.0, k.0, s.0) at none in absurd cc
    ]
  ]
  | inr p ↦ let refused = rw (p.0) at none in absurd cc
]

encoded_within : (n : ℕ) (value : List ℕ) → length value ≡ 4 * n → IsBytes value → fault_within n value ≡ None → algorithms_encoding (algorithms_within n value) ≡ value
encoded_within zero [] long bytes none = refl
encoded_within zero (x ∷ value) long bytes none = absurd (omega arith)
encoded_within (suc n) value long bytes none =
    let each = none_within n value none in
    let first = at_spells value (omega arith) bytes each.0 in
    let others = encoded_within n (drop 4 value) (omega (arith, length-drop 4 value)) (IsBytes-drop 4 value bytes) each.1 in
    flat_map-cons algorithm_encoding (algorithm_at value) (algorithms_within n (drop 4 value)) ∙ (λ i. first i ++ others i) ∙ take-append-drop 4 value

-- they are those that the value is the encoding of
pub encoded : (value : List ℕ) → length value % 4 ≡ 0 → ((k : ℕ) → get_or value k 0 < 256) → fault_within (length value / 4) value ≡ None → algorithms_encoding (algorithms_in value) ≡ value
encoded value fours small none = encoded_within (length value / 4) value (omega (arith, fours)) (IsBytes-from value small) none
