-- The hexadecimal digits of a number: the last one after those of the number before it.
use Rattle.std.proofs.Common.{◌≡◌, ℕ, zero, suc, ◌/◌, ◌%◌, ◌^◌, ◌<◌, ◌≤◌, false, List, [], ◌∷◌, ◌++◌, sym, ap, ◌∙◌, arith, ⊎_elim, eq-eqb, ne_eqb, pow-suc}
use Rattle.std.proofs.lemmas.Bool.{cases_lt}
use Rattle.std.specs.Fmt.{digits, digits_onto, digit_glyph}

-- a number of one digit is that digit
last_digit : (k n : ℕ) (acc : List ℕ) → n < 16 → digits_onto (suc k) 16 false n acc ≡ digit_glyph false (n % 16) ∷ acc
last_digit k n acc small = rw (eq-eqb (n / 16) 0 (omega arith))

-- a number of more digits is all but its last digit, and then the last
next_digit : (k n : ℕ) (acc : List ℕ) → 16 ≤ n → digits_onto (suc k) 16 false n acc ≡ digits_onto k 16 false (n / 16) (digit_glyph false (n % 16) ∷ acc)
next_digit k n acc large = rw (ne_eqb (n / 16) 0 (λ e. omega arith))

-- a number of more than one digit leaves digits before its last
several : (k n : ℕ) → n < 16 ^ suc k → 16 ≤ n → 0 < k
several zero n fits large = omega arith
several (suc k) n fits large = omega arith

-- a greater count writes no more digits, and what follows them is unchanged
digits_before : (k m n : ℕ) (xs acc : List ℕ) → 0 < k → k ≤ m → n < 16 ^ k → digits_onto k 16 false n (xs ++ acc) ≡ digits_onto m 16 false n xs ++ acc
digits_before zero m n xs acc some within small = absurd (omega arith)
digits_before (suc k) zero n xs acc some within small = absurd (omega arith)
digits_before (suc k) (suc m) n xs acc some within small = ⊎_elim
    (λ one. last_digit k n (xs ++ acc) one ∙ ap (λ ds. ds ++ acc) (sym (last_digit m n xs one)))
    (λ more. let power = pow-suc 16 k in
    next_digit k n (xs ++ acc) more
    ∙ digits_before k m (n / 16) (digit_glyph false (n % 16) ∷ xs) acc (several k n small more) (omega arith) (omega arith)
    ∙ ap (λ ds. ds ++ acc) (sym (next_digit m n xs more)))
    (cases_lt n 16)

-- the digits of a number of several digits
pub hex_step : (n : ℕ) → 16 ≤ n → n < 2 ^ 128 → digits 16 false n ≡ digits 16 false (n / 16) ++ digit_glyph false (n % 16) ∷ []
unfolding digits
hex_step n large small = next_digit 63 n [] large ∙ digits_before 63 64 (n / 16) [] (digit_glyph false (n % 16) ∷ []) (omega arith) (omega arith) (omega arith)

-- and of one digit
pub hex_last : (n : ℕ) → n < 16 → digits 16 false n ≡ digit_glyph false (n % 16) ∷ []
unfolding digits
hex_last n small = last_digit 63 n [] small
