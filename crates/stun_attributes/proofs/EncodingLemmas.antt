-- The zeros of a padding, written as one number.
use Rattle.std.proofs.Common.{◌≡◌, ℕ, zero, suc, ◌+◌, ◌-◌, ◌≤◌, List, [], ◌∷◌, ◌++◌, length, take, drop, replicate, refl, sym, ap, ◌∙◌, arith}
use Rattle.std.proofs.lemmas.List.{drop-drop, drop_at, drop_all, length-take}

four_zeros : (k : ℕ) (behind : List ℕ) → k ≤ 4 → drop k (0 ∷ (0 ∷ (0 ∷ (0 ∷ behind)))) ≡ replicate (4 - k) 0 ++ behind
four_zeros zero behind le = refl
four_zeros (suc zero) behind le = refl
four_zeros (suc (suc zero)) behind le = refl
four_zeros (suc (suc (suc zero))) behind le = refl
four_zeros (suc (suc (suc (suc zero)))) behind le = refl
four_zeros (suc (suc (suc (suc (suc k))))) behind le = absurd (omega (arith, le))

-- what follows the first n bytes, where four zeros end at p
pub cleared : (front behind : List ℕ) (n p : ℕ) → length front + 4 ≡ p → length front ≤ n → n ≤ p → drop n (front ++ (0 ∷ (0 ∷ (0 ∷ (0 ∷ behind))))) ≡ replicate (p - n) 0 ++ behind
cleared front behind n p end from to =
    let k : ℕ = n - length front in
    let all = front ++ (0 ∷ (0 ∷ (0 ∷ (0 ∷ behind)))) in
    let n-is : n ≡ length front + k = omega arith in
    let left : 4 - k ≡ p - n = omega arith in
    ap (λ (m : ℕ). drop m all) n-is ∙ sym (drop-drop k (length front) all) ∙ ap (drop k) (drop_at front (0 ∷ (0 ∷ (0 ∷ (0 ∷ behind)))) (length front) refl)
    ∙ four_zeros k behind (omega arith) ∙ ap (λ (m : ℕ). replicate m 0 ++ behind) left

-- the same of bytes over which the four zeros are written
pub put_zeros : (d zeros : List ℕ) (n p : ℕ) → n ≤ p → p ≤ n + 4 → 4 ≤ p → p ≤ length d → zeros ≡ 0 ∷ (0 ∷ (0 ∷ (0 ∷ drop 4 (take (p - (p - 4)) (drop (p - 4) d)))))
    → drop n (take (p - 4) d ++ (zeros ++ drop (p - (p - 4)) (drop (p - 4) d))) ≡ replicate (p - n) 0 ++ drop p d
put_zeros d zeros n p to from four within is =
    let none : drop 4 (take (p - (p - 4)) (drop (p - 4) d)) ≡ [] = drop_all 4 (take (p - (p - 4)) (drop (p - 4) d)) (omega (arith, length-take (p - (p - 4)) (drop (p - 4) d))) in
    let sum : p - 4 + (p - (p - 4)) ≡ p = omega arith in
    let end : drop (p - (p - 4)) (drop (p - 4) d) ≡ drop p d = drop-drop (p - (p - 4)) (p - 4) d ∙ ap (λ (k : ℕ). drop k d) sum in
    rw (is, none, end) (cleared (take (p - 4) d) (drop p d) n p (omega (arith, length-take (p - 4) d)) (omega (arith, length-take (p - 4) d)) to)
