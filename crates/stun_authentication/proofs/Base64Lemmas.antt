-- Bits in base64: they are read back, and their characters are those of a NONCE.
use Rattle.std.proofs.Common.{◌≡◌, ℕ, zero, suc, ◌+◌, ◌*◌, ◌/◌, ◌%◌, ◌-◌, ◌^◌, ◌<◌, ◌≤◌, Bool, true, false, List, [], ◌∷◌, ◌++◌, length, take, drop, get_or, set, Option, Some, None, inl, inr, refl, sym, ap, ◌∙◌, append_assoc, arith}
use Rattle.std.specs.Prelude.{◌&&◌, ◌==◌, slice_index, unwrap_or}
use Rattle.std.specs.List.{AllByRecursion}
use Rattle.std.proofs.Math.Nat.{pow-succ', pow-le-pow_right}
use Rattle.std.proofs.lemmas.Bool.{cases_lt, eqb-true}
use Rattle.std.proofs.lemmas.List.{length-append, take_more, drop-set}
use Rattle.std.proofs.lemmas.List.Quantifiers.{position-Some}
use Rattle.std.proofs.lemmas.List.Sums.{fold-append}
use Rattle.stun_grammar.proofs.ShowingLemmas.{AllByRecursion-append}
use Rattle.stun_authentication.specs.Base64.{base64, six_bits, in_base64, of_base64}
use Rattle.stun_authentication.specs.Nonces.{is_qdtext}

abbrev pub IsText : List ℕ → Type 0
IsText = AllByRecursion (λ c. is_qdtext c ≡ true)

-- ---- One character

-- the character of six bits
abbrev character : ℕ → ℕ
character n = slice_index base64 n

-- the bits that a character encodes; one that is none of base64 counts as zeros
bits_of : ℕ → ℕ
bits_of c = unwrap_or (six_bits c) 0

-- each of the first n characters is read back, and is one that a NONCE may have
is_good : ℕ → Bool
is_good zero = true
is_good (suc n) = ((bits_of (character n) == n) && is_qdtext (character n)) && is_good n

all_good : is_good 64 ≡ true
unfolding is_good bits_of six_bits
all_good = refl

first_true : (a b : Bool) → (a && b) ≡ true → a ≡ true
first_true true b e = refl
first_true false b e = absurd cc

second_true : (a b : Bool) → (a && b) ≡ true → b ≡ true
second_true true b e = e
second_true false b e = absurd cc

good_below : (m n : ℕ) → n < m → is_good m ≡ true → ((bits_of (character n) == n) && is_qdtext (character n)) ≡ true
unfolding is_good
good_below zero n below good = absurd (omega (arith, below))
good_below (suc m) n below good = elim (cases_lt n m) [
  | inl less ↦ good_below m n less (second_true ((bits_of (character m) == m) && is_qdtext (character m)) (is_good m) good)
  | inr same ↦
      let is : m ≡ n = omega (arith, below, same) in
      ap (λ (k : ℕ). (bits_of (character k) == k) && is_qdtext (character k)) (sym is) ∙ first_true ((bits_of (character m) == m) && is_qdtext (character m)) (is_good m) good
]

character_back : (n : ℕ) → n < 64 → bits_of (character n) ≡ n
character_back n small = eqb-true (bits_of (character n)) n (first_true (bits_of (character n) == n) (is_qdtext (character n)) (good_below 64 n small all_good))

character_text : (n : ℕ) → n < 64 → is_qdtext (character n) ≡ true
character_text n small = second_true (bits_of (character n) == n) (is_qdtext (character n)) (good_below 64 n small all_good)

-- ---- Many characters

-- one character more
of_base64-snoc : (xs : List ℕ) (c : ℕ) → of_base64 (xs ++ c ∷ []) ≡ 64 * of_base64 xs + bits_of c
unfolding bits_of
of_base64-snoc xs c = fold-append (λ bits known. 64 * bits + unwrap_or (six_bits known) 0) 0 xs (c ∷ [])

pub bits_back : (k n : ℕ) → n < 64 ^ k → of_base64 (in_base64 k n) ≡ n
unfolding in_base64
bits_back zero n small = omega (arith, small)
bits_back (suc k) n small =
    let fits : n / 64 < 64 ^ k = omega (arith, small, pow-succ' 64 k) in
    let last : bits_of (character (n % 64)) ≡ n % 64 = character_back (n % 64) (omega arith) in
    of_base64-snoc (in_base64 k (n / 64)) (character (n % 64))
    ∙ ap (λ (high : ℕ). 64 * high + bits_of (character (n % 64))) (bits_back k (n / 64) fits)
    ∙ ap (λ (low : ℕ). 64 * (n / 64) + low) last ∙ omega arith

pub length-in_base64 : (k n : ℕ) → length (in_base64 k n) ≡ k
unfolding in_base64
length-in_base64 zero n = refl
length-in_base64 (suc k) n = omega (arith, length-append (in_base64 k (n / 64)) (character (n % 64) ∷ []), length-in_base64 k (n / 64))

pub in_base64_text : (k n : ℕ) → IsText (in_base64 k n)
unfolding in_base64
in_base64_text zero n = tt
in_base64_text (suc k) n =
    AllByRecursion-append (λ c. is_qdtext c ≡ true) (in_base64 k (n / 64)) (character (n % 64) ∷ []) (in_base64_text k (n / 64)) (character_text (n % 64) (omega arith), tt)

-- six characters have the last 36 bits
pub last_bits : (n : ℕ) → in_base64 6 (n % 2 ^ 36) ≡ in_base64 6 n
unfolding in_base64
last_bits n =
    let m = n % 2 ^ 36 in
    let b0 : m % 64 ≡ n % 64 = omega arith in
    let b1 : m / 64 % 64 ≡ n / 64 % 64 = omega arith in
    let b2 : m / 64 / 64 % 64 ≡ n / 64 / 64 % 64 = omega arith in
    let b3 : m / 64 / 64 / 64 % 64 ≡ n / 64 / 64 / 64 % 64 = omega arith in
    let b4 : m / 64 / 64 / 64 / 64 % 64 ≡ n / 64 / 64 / 64 / 64 % 64 = omega arith in
    let b5 : m / 64 / 64 / 64 / 64 / 64 % 64 ≡ n / 64 / 64 / 64 / 64 / 64 % 64 = omega arith in
    λ j. character (b5 j) ∷ character (b4 j) ∷ character (b3 j) ∷ character (b2 j) ∷ character (b1 j) ∷ character (b0 j) ∷ []

-- ---- The code

-- one character is written before those that are there
pub written_before : (dest : List ℕ) (i n bits left c : ℕ) → 0 < i → i ≤ length dest → c ≡ slice_index base64 (left % 64) → in_base64 i left ++ drop i dest ≡ in_base64 n bits
    → in_base64 (i - 1) (left / 64) ++ drop (i - 1) (set dest (i - 1) c) ≡ in_base64 n bits
unfolding in_base64
written_before dest zero n bits left c some within last is = absurd (omega (arith, some))
written_before dest (suc i) n bits left c some within last is =
    let before : suc i - 1 ≡ i = omega arith in
    let after : i + 1 ≡ suc i = omega arith in
    let rest : drop i (set dest i c) ≡ character (left % 64) ∷ drop (suc i) dest =
    drop-set dest i c (omega (arith, within)) ∙ ap (λ (x : ℕ). x ∷ drop (i + 1) dest) last ∙ ap (λ (k : ℕ). character (left % 64) ∷ drop k dest) after in
    ap (λ (k : ℕ). in_base64 k (left / 64) ++ drop k (set dest k c)) before ∙ ap (λ (tail : List ℕ). in_base64 i (left / 64) ++ tail) rest
    ∙ sym (append_assoc (in_base64 i (left / 64)) (character (left % 64) ∷ []) (drop (suc i) dest)) ∙ is

pub in_base64_none : (left : ℕ) (tail : List ℕ) → in_base64 0 left ++ tail ≡ tail
unfolding in_base64
in_base64_none left tail = refl

-- one character more is read
pub read_more : (characters : List ℕ) (i : ℕ) → i < length characters → of_base64 (take (i + 1) characters) ≡ 64 * of_base64 (take i characters) + unwrap_or (six_bits (get_or characters i 0)) 0
unfolding bits_of
read_more characters i inside = ap of_base64 (take_more characters i 0 inside) ∙ of_base64-snoc (take i characters) (get_or characters i 0)

pub bits_small : (c : ℕ) → unwrap_or (six_bits c) 0 < 64
unfolding six_bits
bits_small c = within (six_bits c) refl
  where
    within : (o : Option ℕ) → six_bits c ≡ o → unwrap_or o 0 < 64
    within None e = omega arith
    within (Some n) e = (position-Some (λ known. known == c) base64 n 0 e).0

-- no character takes the number out of 64 bits
pub bits_fit : (i bits v : ℕ) → i < 10 → bits < 64 ^ i → v < 64 → 64 * bits + v < 2 ^ 64
bits_fit i bits v few small six = omega (arith, small, six, pow-succ' 64 i, pow-le-pow_right {n = 64} (omega arith) {i = suc i} {j = 10} (omega (arith, few)))

pub bits_more : (i bits v : ℕ) → bits < 64 ^ i → v < 64 → 64 * bits + v < 64 ^ (i + 1)
bits_more i bits v small six = let next : i + 1 ≡ suc i = omega arith in omega (arith, small, six, ap (λ (k : ℕ). 64 ^ k) next, pow-succ' 64 i)
