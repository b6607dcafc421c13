-- Bytes that are XORed with a mask.
use Rattle.std.proofs.Common.{◌≡◌, ℕ, zero, suc, ◌+◌, ◌<◌, ◌≤◌, List, [], ◌∷◌, ◌++◌, length, get_or, set, take, drop, bit_xor, refl, ap, add-one, arith}
use Rattle.stun_grammar.specs.Numbers.{be32, be96}
use Rattle.stun_grammar.specs.Headers.{magic_cookie}
use Rattle.stun_values.specs.Addresses.{mask, xor_bytes}

step : (xs ys : List ℕ) (i : ℕ) → i < length xs → i < length ys
    → set (xor_bytes (take i xs) ys ++ drop i xs) i (bit_xor (get_or (xor_bytes (take i xs) ys ++ drop i xs) i 0) (get_or ys i 0)) ≡ xor_bytes (take (suc i) xs) ys ++ drop (suc i) xs
step [] ys i inside masked = absurd (omega arith)
step (x ∷ xs) [] i inside masked = absurd (omega arith)
step (x ∷ xs) (y ∷ ys) zero inside masked = refl
step (x ∷ xs) (y ∷ ys) (suc i) inside masked = ap (λ (zs : List ℕ). bit_xor x y ∷ zs) (step xs ys i (omega arith) (omega arith))

-- the next byte is XORed
pub xor_step : (xs ys : List ℕ) (i : ℕ) → i < length xs → i < length ys
    → set (xor_bytes (take i xs) ys ++ drop i xs) i (bit_xor (get_or (xor_bytes (take i xs) ys ++ drop i xs) i 0) (get_or ys i 0)) ≡ xor_bytes (take (i + 1) xs) ys ++ drop (i + 1) xs
xor_step xs ys i inside masked = rw (add-one i) (step xs ys i inside masked)

-- a mask after as many bytes as are XORed changes nothing
xor_front : (xs ys zs : List ℕ) → length xs ≤ length ys → xor_bytes xs (ys ++ zs) ≡ xor_bytes xs ys
xor_front [] ys zs short = refl
xor_front (x ∷ xs) [] zs short = absurd (omega arith)
xor_front (x ∷ xs) (y ∷ ys) zs short = ap (λ (rest : List ℕ). bit_xor x y ∷ rest) (xor_front xs ys zs (omega arith))

-- four bytes are XORed with the cookie alone
pub xor_cookie : (id : ℕ) (xs : List ℕ) → length xs ≤ 4 → xor_bytes xs (mask id) ≡ xor_bytes xs (be32 magic_cookie)
xor_cookie id xs short = xor_front xs (be32 magic_cookie) (be96 id) short
