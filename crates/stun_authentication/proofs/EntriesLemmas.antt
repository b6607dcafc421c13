-- Entries of password algorithms, one after the other.
use Rattle.std.proofs.Common.{◌≡◌, ℕ, zero, suc, ◌+◌, ◌*◌, ◌<◌, ◌≤◌, Bool, true, false, ◌&&◌, List, [], ◌∷◌, length, get_or, take, drop, nat_eq, Option, Some, None, refl, sym, ap, ◌∙◌, arith}
use Rattle.std.specs.Cmp.Lexicographic.{pointwise, bytes_decides}
use Rattle.std.specs.Prelude.{not}
use Rattle.std.specs.Option.{option_or}
use Rattle.std.proofs.lemmas.Bool.Decides.{Decides-and, Decides-like, same_from_decides}
use Rattle.std.proofs.lemmas.List.{take-append-drop, drop-drop, drop_all}
use Rattle.stun_grammar.specs.Attributes.{Attribute, encoding}
use Rattle.stun_grammar.specs.Chains.{chain, first_attribute}
use Rattle.stun_grammar.proofs.ChainsLemmas.{chain-none, chain-some, length-first_attribute}
use Rattle.stun_values.specs.declared.algorithm.PasswordAlgorithmValue.{PasswordAlgorithmValue}
use Rattle.stun_values.specs.declared.algorithm.PasswordAlgorithmValue.TheVariants.{MD5, SHA256}
use Rattle.stun_values.specs.Algorithms.{algorithm_encoding, algorithms_encoding}
use Rattle.stun_values.proofs.ListsLemmas.{length_of_entries}
use Rattle.stun_authentication.specs.Lists.{named_by, first_among}

-- ---- The first entry that names an algorithm

pub among_none : (wanted : List PasswordAlgorithmValue) (b : List ℕ) → first_attribute b ≡ None → first_among wanted (chain b) ≡ None
unfolding first_among
among_none wanted b none = ap (first_among wanted) (chain-none b none)

pub among_first : (wanted : List PasswordAlgorithmValue) (b : List ℕ) (a : Attribute) (algorithm : PasswordAlgorithmValue) → first_attribute b ≡ Some a → named_by wanted a.type a.value ≡ Some algorithm
    → first_among wanted (chain b) ≡ Some algorithm
unfolding first_among
among_first wanted b a algorithm first named =
    ap (first_among wanted) (chain-some b a first) ∙ ap (λ (o : Option PasswordAlgorithmValue). option_or o (first_among wanted (chain (drop (length (encoding a)) b)))) named

pub among_next : (wanted : List PasswordAlgorithmValue) (d : List ℕ) (offset behind : ℕ) (a : Attribute) → first_attribute (drop offset d) ≡ Some a → behind ≡ offset + length (encoding a)
    → named_by wanted a.type a.value ≡ None → first_among wanted (chain (drop offset d)) ≡ first_among wanted (chain (drop behind d))
unfolding first_among
among_next wanted d offset behind a first place named =
    ap (first_among wanted) (chain-some (drop offset d) a first) ∙ ap (λ (o : Option PasswordAlgorithmValue). option_or o (first_among wanted (chain (drop (length (encoding a)) (drop offset d))))) named
    ∙ ap (λ (b : List ℕ). first_among wanted (chain b)) (drop-drop (length (encoding a)) offset d ∙ ap (λ (k : ℕ). drop k d) (sym place))

-- an entry takes at least four bytes, which are there
pub entry_length : (d : List ℕ) (offset : ℕ) (a : Attribute) → first_attribute (drop offset d) ≡ Some a → 4 ≤ length (encoding a)
entry_length d offset a first = omega (arith, (length-first_attribute (drop offset d) a first).0)

-- ---- Whether a value is a list of algorithms

-- two lists are compared in two parts
in_parts : (n : ℕ) (xs ys : List ℕ) → pointwise nat_eq xs ys ≡ (pointwise nat_eq (take n xs) (take n ys) && pointwise nat_eq (drop n xs) (drop n ys))
in_parts n xs ys =
    let first = pointwise nat_eq (take n xs) (take n ys) in
    let second = pointwise nat_eq (drop n xs) (drop n ys) in
    sym (same_from_decides (first && second) (pointwise nat_eq xs ys)
    (Decides-like {P = (take n xs ≡ take n ys) × (drop n xs ≡ drop n ys)} {Q = xs ≡ ys} (first && second)
    (λ both. sym (take-append-drop n xs) ∙ rw (both.0, both.1) (take-append-drop n ys))
    (λ same. (ap (take n) same, ap (drop n) same))
    (Decides-and first second (bytes_decides (take n xs) (take n ys)) (bytes_decides (drop n xs) (drop n ys))))
    (bytes_decides xs ys))

-- the entry at an index
entry_at : (xs : List PasswordAlgorithmValue) (i : ℕ) (d : PasswordAlgorithmValue) → i < length xs → take 4 (drop (4 * i) (algorithms_encoding xs)) ≡ algorithm_encoding (get_or xs i d)
entry_at [] i d inside = absurd (omega arith)
entry_at (MD5 ∷ xs) zero d inside = refl
entry_at (SHA256 ∷ xs) zero d inside = refl
entry_at (x ∷ xs) (suc i) d inside =
    let place : 4 * suc i ≡ 4 + 4 * i = omega arith in
    ap (λ (k : ℕ). take 4 (drop k (algorithms_encoding (x ∷ xs)))) place
    ∙ ap (take 4) (sym (drop-drop (4 * i) 4 (algorithms_encoding (x ∷ xs))))
    ∙ ap (λ (b : List ℕ). take 4 (drop (4 * i) b)) (behind_first x xs)
    ∙ entry_at xs i d (omega arith)
  where
    behind_first : (x : PasswordAlgorithmValue) (xs : List PasswordAlgorithmValue) → drop 4 (algorithms_encoding (x ∷ xs)) ≡ algorithms_encoding xs
    behind_first MD5 xs = refl
    behind_first SHA256 xs = refl

-- what `!=` says
pub differs : (b reported : Bool) → reported ≡ not b → reported ≡ true → b ≡ false
differs true reported is e = absurd (cc (is, e))
differs false reported is e = refl

pub agrees : (b reported : Bool) → reported ≡ not b → reported ≡ false → b ≡ true
agrees true reported is e = refl
agrees false reported is e = absurd (cc (is, e))

-- what is left to compare from an index on decides
abbrev pub rest_decides : List ℕ → List PasswordAlgorithmValue → ℕ → Type 0
rest_decides value xs i =
    pointwise nat_eq value (algorithms_encoding xs) ≡ pointwise nat_eq (drop (4 * i) value) (drop (4 * i) (algorithms_encoding xs))

pub at_index : (value : List ℕ) (xs : List PasswordAlgorithmValue) (i : ℕ) (d : PasswordAlgorithmValue) (same : Bool) → i < length xs → rest_decides value xs i
    → pointwise nat_eq (take 4 (drop (4 * i) value)) (algorithm_encoding (get_or xs i d)) ≡ same
    → pointwise nat_eq value (algorithms_encoding xs) ≡ (same && pointwise nat_eq (drop (4 * (i + 1)) value) (drop (4 * (i + 1)) (algorithms_encoding xs)))
at_index value xs i d same inside so_far is =
    let b = algorithms_encoding xs in
    let place : 4 * i + 4 ≡ 4 * (i + 1) = omega arith in
    so_far ∙ in_parts 4 (drop (4 * i) value) (drop (4 * i) b)
    ∙ rw (entry_at xs i d inside, is, drop-drop 4 (4 * i) value, drop-drop 4 (4 * i) b, place) refl

pub at_end : (value : List ℕ) (xs : List PasswordAlgorithmValue) (i : ℕ) → length value ≡ 4 * length xs → length xs ≤ i → rest_decides value xs i → true ≡ pointwise nat_eq value (algorithms_encoding xs)
at_end value xs i long done so_far =
    let none : drop (4 * i) value ≡ [] = drop_all (4 * i) value (omega (arith, long)) in
    let neither : drop (4 * i) (algorithms_encoding xs) ≡ [] = drop_all (4 * i) (algorithms_encoding xs) (omega (arith, length_of_entries xs)) in
    sym (so_far ∙ rw (none, neither) refl)

false_of : (b : Bool) → (b ≡ true → ⊥) → b ≡ false
false_of true other = absurd (other refl)
false_of false other = refl

-- lists of other lengths differ
pub other_length : (value : List ℕ) (xs : List PasswordAlgorithmValue) → (length value ≡ 4 * length xs → ⊥) → false ≡ pointwise nat_eq value (algorithms_encoding xs)
other_length value xs differ = sym (false_of (pointwise nat_eq value (algorithms_encoding xs)) (λ e. differ (ap length ((bytes_decides value (algorithms_encoding xs)).0 e) ∙ length_of_entries xs)))
