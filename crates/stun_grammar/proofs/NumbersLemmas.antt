-- Bytes, and the numbers that they encode.
use Rattle.std.proofs.Common.{◌≡◌, ℕ, zero, suc, ◌+◌, ◌*◌, ◌/◌, ◌%◌, ◌^◌, ◌<◌, List, [], ◌∷◌, ◌++◌, length, get_or, take, drop, refl, arith}
use Rattle.stun_grammar.specs.Numbers.{be16, number, IsBytes}

pub IsBytes-get : (b : List ℕ) → IsBytes b → (i : ℕ) → get_or b i 0 < 256
IsBytes-get [] h i = omega arith
IsBytes-get (x ∷ b) h zero = h.0
IsBytes-get (x ∷ b) h (suc i) = IsBytes-get b h.1 i

pub IsBytes-from : (b : List ℕ) → ((i : ℕ) → get_or b i 0 < 256) → IsBytes b
IsBytes-from [] h = tt
IsBytes-from (x ∷ b) h = (h 0, IsBytes-from b (λ i. h (suc i)))

pub IsBytes-drop : (n : ℕ) (b : List ℕ) → IsBytes b → IsBytes (drop n b)
IsBytes-drop zero b h = h
IsBytes-drop (suc n) [] h = tt
IsBytes-drop (suc n) (x ∷ b) h = IsBytes-drop n b h.1

pub IsBytes-take : (n : ℕ) (b : List ℕ) → IsBytes b → IsBytes (take n b)
IsBytes-take zero b h = tt
IsBytes-take (suc n) [] h = tt
IsBytes-take (suc n) (x ∷ b) h = (h.0, IsBytes-take n b h.1)

pub IsBytes-behind : (a b : List ℕ) → IsBytes (a ++ b) → IsBytes b
IsBytes-behind [] b h = h
IsBytes-behind (x ∷ a) b h = IsBytes-behind a b h.1

-- ---- Two bytes

pub number-two : (b : List ℕ) → length b ≡ 2 → number b ≡ 256 * get_or b 0 0 + get_or b 1 0
number-two [] e = absurd (omega (arith, e))
number-two (x ∷ []) e = absurd (omega (arith, e))
number-two (x ∷ (y ∷ [])) e = omega arith
number-two (x ∷ (y ∷ (z ∷ b))) e = absurd (omega (arith, e))

pub number-be16 : (n : ℕ) → n < 2 ^ 16 → number (be16 n) ≡ n
number-be16 n h = omega arith

pub be16-number : (b : List ℕ) (n : ℕ) → length b ≡ 2 → IsBytes b → number b ≡ n → be16 n ≡ b
be16-number [] n e bytes is = absurd (omega (arith, e))
be16-number (x ∷ []) n e bytes is = absurd (omega (arith, e))
be16-number (x ∷ (y ∷ (z ∷ b))) n e bytes is = absurd (omega (arith, e))
be16-number (x ∷ (y ∷ [])) n e bytes is =
    let high : n / 256 % 256 ≡ x = omega (arith, is, bytes.0, bytes.1.0) in
    let low : n % 256 ≡ y = omega (arith, is, bytes.0, bytes.1.0) in
    rw (high, low) refl
