-- The numbers of bytes and of users.
use Rattle.std.proofs.Common.{◌≡◌, ℕ, ◌+◌, ◌*◌, ◌^◌, List, [], ◌∷◌, length, take, drop, fold, suc, zero, sym, ap, refl, ◌∙◌, arith}
use Rattle.std.proofs.lemmas.List.{take-append-drop, length-drop}
use Rattle.std.proofs.lemmas.List.Sums.{fold-append}
use Rattle.turn_slots.specs.Users.{number_of, UserNumbersAreTheirBytes}

-- what a number becomes before so many more bytes
abbrev shifted : (k n : ℕ) → ℕ
shifted zero n = n
shifted (suc k) n = shifted k (256 * n)

shifted-add : (xs : List ℕ) (a b : ℕ) → fold (λ high byte. 256 * high + byte) (a + b) xs ≡ shifted (length xs) a + fold (λ high byte. 256 * high + byte) b xs
shifted-add [] a b = refl
shifted-add (x ∷ xs) a b =
    ap (λ (n : ℕ). fold (λ high byte. 256 * high + byte) n xs) (omega arith) ∙ shifted-add xs (256 * a) (256 * b + x)

-- a number in front of sixteen bytes
before_sixteen : (n : ℕ) (xs : List ℕ) → length xs ≡ 16 → fold (λ high byte. 256 * high + byte) n xs ≡ n * 2 ^ 128 + number_of xs
before_sixteen n xs size =
    let moved : shifted (length xs) n ≡ shifted 16 n = ap (λ (k : ℕ). shifted k n) size in
    let whole : fold (λ high byte. 256 * high + byte) n xs ≡ fold (λ high byte. 256 * high + byte) (n + 0) xs =
    ap (λ (m : ℕ). fold (λ high byte. 256 * high + byte) m xs) (omega arith) in
    let parts = shifted-add xs n 0 in
    whole ∙ (parts ∙ (ap (λ (m : ℕ). m + number_of xs) moved ∙ omega arith))

pub user_numbers : UserNumbersAreTheirBytes
user_numbers bytes size =
    let low : length (drop 16 bytes) ≡ 16 = length-drop 16 bytes ∙ omega (arith, size) in
    let whole : number_of bytes ≡ fold (λ high byte. 256 * high + byte) (number_of (take 16 bytes)) (drop 16 bytes) =
    ap number_of (sym (take-append-drop 16 bytes)) ∙ fold-append (λ high byte. 256 * high + byte) 0 (take 16 bytes) (drop 16 bytes) in
    sym (whole ∙ before_sixteen (number_of (take 16 bytes)) (drop 16 bytes) low)
