-- Bytes that are compared by gathering their XORs.
use Rattle.std.proofs.Common.{◌≡◌, ℕ, zero, suc, ◌+◌, ◌-◌, ◌<◌, ◌≤◌, ◌&&◌, List, get_or, drop, length, bit_or, bit_xor, nat_eq, refl, sym, ap, ◌∙◌, arith, below_more, inl, inr}
use Rattle.std.specs.Cmp.Lexicographic.{pointwise, bytes_decides}
use Rattle.std.specs.Int.Bits.{xor_assoc, xor_self, xor_zero_r}
use Rattle.std.proofs.lemmas.Bool.{cases_lt}
use Rattle.std.proofs.lemmas.Bool.Decides.{Decides-and, Decides-eqb, Decides-like, same_from_decides}
use Rattle.std.proofs.lemmas.Grind.{same_number_lists}
use Rattle.std.proofs.lemmas.List.{get_or-drop}
use Rattle.std.proofs.lemmas.Nat.{le_or_l, le_or_r}
use Rattle.byteorder.specs.Endian.{little_number}
use Rattle.stun_grammar.specs.Numbers.{IsBytes}
use Rattle.stun_grammar.proofs.NumbersLemmas.{IsBytes-get, IsBytes-drop}

-- what is known of two lists whose bytes below `at` were compared: no difference, and those bytes are equal; equal lists, and there is none
abbrev pub Compared : ℕ → ℕ → List ℕ → List ℕ → Type 0
Compared at difference left right = (difference ≡ 0 → (k : ℕ) → k < at → get_or left k 0 ≡ get_or right k 0) × (left ≡ right → difference ≡ 0)

-- numbers whose XOR is 0 are equal
equal_of_xor : (a b : ℕ) → bit_xor a b ≡ 0 → a ≡ b
equal_of_xor a b none =
    sym (xor_zero_r a) ∙ (sym (ap (bit_xor a) (xor_self b)) ∙ (sym (xor_assoc a b b) ∙ ap (λ (n : ℕ). bit_xor n b) none))

first_none : (a b : ℕ) → bit_or a b ≡ 0 → a ≡ 0
first_none a b none = let below : a ≤ bit_or a b = le_or_l a b in omega arith

second_none : (a b : ℕ) → bit_or a b ≡ 0 → b ≡ 0
second_none a b none = let below : b ≤ bit_or a b = le_or_r a b in omega arith

-- two numbers gathered into one
pub no_difference : (a b : ℕ) → nat_eq (bit_or a b) 0 ≡ (nat_eq a 0 && nat_eq b 0)
no_difference a b =
    same_from_decides (nat_eq (bit_or a b) 0) (nat_eq a 0 && nat_eq b 0)
    (Decides-like {P = bit_or a b ≡ 0} {Q = (a ≡ 0) × (b ≡ 0)} (nat_eq (bit_or a b) 0)
    (λ none. (first_none a b none, second_none a b none))
    (λ both. rw (both.0, both.1) refl)
    (Decides-eqb (bit_or a b) 0))
    (Decides-and (nat_eq a 0) (nat_eq b 0) (Decides-eqb a 0) (Decides-eqb b 0))

-- a number that is 0, and two equal numbers
none_more : (d a b : ℕ) → d ≡ 0 → a ≡ b → bit_or d (bit_xor a b) ≡ 0
none_more d a b none same = rw (none, same, xor_self b) refl

below_four : (P : ℕ → Type 0) → P 0 → P 1 → P 2 → P 3 → (k : ℕ) → k < 4 → P k
below_four P a b c d zero h = a
below_four P a b c d (suc zero) h = b
below_four P a b c d (suc (suc zero)) h = c
below_four P a b c d (suc (suc (suc zero))) h = d
below_four P a b c d (suc (suc (suc (suc k)))) h = absurd (omega (arith, h))

-- four bytes are determined by their number
equal_words : (xs ys : List ℕ) → IsBytes xs → IsBytes ys → little_number 4 xs ≡ little_number 4 ys → (k : ℕ) → k < 4 → get_or xs k 0 ≡ get_or ys k 0
equal_words xs ys bytes others same =
    let a : get_or xs 0 0 ≡ get_or ys 0 0 = omega (arith, same, IsBytes-get xs bytes 0, IsBytes-get ys others 0) in
    let b : get_or xs 1 0 ≡ get_or ys 1 0 = omega (arith, same, a, IsBytes-get xs bytes 1, IsBytes-get ys others 1) in
    let c : get_or xs 2 0 ≡ get_or ys 2 0 = omega (arith, same, a, b, IsBytes-get xs bytes 2, IsBytes-get ys others 2) in
    let d : get_or xs 3 0 ≡ get_or ys 3 0 = omega (arith, same, a, b, c) in
    below_four (λ k. get_or xs k 0 ≡ get_or ys k 0) a b c d

-- a byte of what is left, by its place in the whole
place : (n k : ℕ) (xs : List ℕ) → n ≤ k → get_or (drop n xs) (k - n) 0 ≡ get_or xs k 0
place n k xs behind = let whole : n + (k - n) ≡ k = omega arith in get_or-drop n xs (k - n) 0 ∙ ap (λ (i : ℕ). get_or xs i 0) whole

-- a word more
pub next_word : (xs ys : List ℕ) (d n x y : ℕ) → IsBytes xs → IsBytes ys → x ≡ little_number 4 (drop n xs) → y ≡ little_number 4 (drop n ys) → Compared n d xs ys
    → Compared (n + 4) (bit_or d (bit_xor x y)) xs ys
next_word xs ys d n x y bytes others x-is y-is so_far = (
  λ none k below. elim (cases_lt k n) [
    | inl before ↦ so_far.0 (first_none d (bit_xor x y) none) k before
    | inr behind ↦
        let same : x ≡ y = equal_of_xor x y (second_none d (bit_xor x y) none) in
        sym (place n k xs behind)
        ∙ equal_words (drop n xs) (drop n ys) (IsBytes-drop n xs bytes) (IsBytes-drop n ys others) (sym x-is ∙ same ∙ y-is) (k - n) (omega arith)
        ∙ place n k ys behind
  ],
  λ same. none_more d x y (so_far.1 same) (x-is ∙ ap (λ (zs : List ℕ). little_number 4 (drop n zs)) same ∙ sym y-is),
)

-- a byte more
pub next_byte : (xs ys : List ℕ) (d i : ℕ) → Compared i d xs ys → Compared (i + 1) (bit_or d (bit_xor (get_or xs i 0) (get_or ys i 0))) xs ys
next_byte xs ys d i so_far =
    let a : ℕ = get_or xs i 0 in
    let b : ℕ = get_or ys i 0 in (
      λ none. below_more (λ (k : ℕ). get_or xs k 0 ≡ get_or ys k 0) i (so_far.0 (first_none d (bit_xor a b) none)) (equal_of_xor a b (second_none d (bit_xor a b) none)),
      λ same. none_more d a b (so_far.1 same) (ap (λ (zs : List ℕ). get_or zs i 0) same),
    )

-- all bytes were compared
pub all_compared : (xs ys : List ℕ) (d n : ℕ) → length xs ≡ n → length ys ≡ n → Compared n d xs ys → nat_eq d 0 ≡ pointwise nat_eq xs ys
all_compared xs ys d n long as_long compared =
    same_from_decides (nat_eq d 0) (pointwise nat_eq xs ys)
    (Decides-like {P = d ≡ 0} {Q = xs ≡ ys} (nat_eq d 0)
    (λ none. same_number_lists xs ys (omega (arith, long, as_long)) (λ k below. compared.0 none k (omega (arith, below, long))))
    compared.1
    (Decides-eqb d 0))
    (bytes_decides xs ys)
