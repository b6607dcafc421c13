-- The checksum, byte by byte: a shift of a XOR is the XOR of the shifts, so each byte can be shifted alone, and the
-- register after all of them is the XOR of what they become.
use Rattle.std.proofs.Common.{◌≡◌, ◌⊎◌, ℕ, zero, suc, ◌+◌, ◌*◌, ◌/◌, ◌%◌, ◌^◌, ◌<◌, List, [], ◌∷◌, ◌++◌, length, fold, bit_xor, inl, inr, refl, ap, ap₂, sym, ◌∙◌, arith}
use Rattle.std.proofs.lemmas.List.Sums.{fold-append}
use Rattle.std.proofs.lemmas.List.{length-append}
use Rattle.std.specs.Int.Bits.{xor_assoc, xor_self, xor_zero_r}
use Rattle.std.proofs.lemmas.Bool.{cases_eq}
use Rattle.std.proofs.lemmas.Nat.{xor_comm, xor_shr, xor_mod, xor_block}
use Rattle.stun_grammar.specs.Checksums.{shifted, shifted_by, after_byte}

abbrev polynomial : ℕ
polynomial = 0xEDB88320

parity : (n : ℕ) → (n % 2 ≡ 0) ⊎ (n % 2 ≡ 1)
parity n = elim (cases_eq (n % 2) 0) [ inl even ↦ inl even | inr other ↦ inr (omega arith) ]

shifted_even : (r : ℕ) → r % 2 ≡ 0 → shifted r ≡ r / 2
shifted_even r e = rw e refl

shifted_odd : (r : ℕ) → r % 2 ≡ 1 → shifted r ≡ bit_xor (r / 2) polynomial
shifted_odd r e = rw e refl

swap_last : (a b c : ℕ) → bit_xor (bit_xor a b) c ≡ bit_xor (bit_xor a c) b
swap_last a b c = xor_assoc a b c ∙ ap (bit_xor a) (xor_comm b c) ∙ sym (xor_assoc a c b)

-- what is XORed into both sides is gone
cancel : (a b p : ℕ) → bit_xor (bit_xor a p) (bit_xor b p) ≡ bit_xor a b
cancel a b p =
    sym (xor_assoc (bit_xor a p) b p) ∙ swap_last (bit_xor a p) b p ∙ ap (λ (x : ℕ). bit_xor x b) (xor_assoc a p p ∙ ap (bit_xor a) (xor_self p) ∙ xor_zero_r a)

-- a shift of a XOR is the XOR of the shifts
shifted-xor : (a b : ℕ) → shifted (bit_xor a b) ≡ bit_xor (shifted a) (shifted b)
shifted-xor a b =
    let half : bit_xor a b / 2 ≡ bit_xor (a / 2) (b / 2) = xor_shr a b 1 in
    let low : bit_xor a b % 2 ≡ bit_xor (a % 2) (b % 2) = xor_mod a b 1 in
    let marked : bit_xor (bit_xor a b / 2) polynomial ≡ bit_xor (bit_xor (a / 2) (b / 2)) polynomial = ap (λ (x : ℕ). bit_xor x polynomial) half in
    elim (parity a) [
      | inl p ↦ elim (parity b) [
        | inl q ↦ shifted_even (bit_xor a b) (low ∙ ap₂ bit_xor p q) ∙ half ∙ sym (ap₂ bit_xor (shifted_even a p) (shifted_even b q))
        | inr q ↦
            shifted_odd (bit_xor a b) (low ∙ ap₂ bit_xor p q) ∙ marked ∙ xor_assoc (a / 2) (b / 2) polynomial
            ∙ sym (ap₂ bit_xor (shifted_even a p) (shifted_odd b q))
      ]
      | inr p ↦ elim (parity b) [
        | inl q ↦
            shifted_odd (bit_xor a b) (low ∙ ap₂ bit_xor p q) ∙ marked ∙ swap_last (a / 2) (b / 2) polynomial
            ∙ sym (ap₂ bit_xor (shifted_odd a p) (shifted_even b q))
        | inr q ↦
            shifted_even (bit_xor a b) (low ∙ ap₂ bit_xor p q) ∙ half ∙ sym (cancel (a / 2) (b / 2) polynomial)
            ∙ sym (ap₂ bit_xor (shifted_odd a p) (shifted_odd b q))
      ]
    ]

shifted_by-xor : (n a b : ℕ) → shifted_by n (bit_xor a b) ≡ bit_xor (shifted_by n a) (shifted_by n b)
unfolding shifted_by
shifted_by-xor zero a b = refl
shifted_by-xor (suc n) a b = ap (shifted_by n) (shifted-xor a b) ∙ shifted_by-xor n (shifted a) (shifted b)

shifted_by-zero : (r : ℕ) → shifted_by 0 r ≡ r
unfolding shifted_by
shifted_by-zero r = refl

shifted_by-add : (m n r : ℕ) → shifted_by (m + n) r ≡ shifted_by n (shifted_by m r)
unfolding shifted_by
shifted_by-add zero n r = let e : zero + n ≡ n = omega arith in ap (λ (k : ℕ). shifted_by k r) e
shifted_by-add (suc m) n r = let e : suc m + n ≡ suc (m + n) = omega arith in ap (λ (k : ℕ). shifted_by k r) e ∙ shifted_by-add m n (shifted r)

-- one byte more, before the others or after them
pub shifted_by_byte_first : (n r : ℕ) → shifted_by (8 * n) (shifted_by 8 r) ≡ shifted_by (8 * suc n) r
shifted_by_byte_first n r = let e : 8 + 8 * n ≡ 8 * suc n = omega arith in sym (shifted_by-add 8 (8 * n) r) ∙ ap (λ (k : ℕ). shifted_by k r) e

abbrev doubled : ℕ → ℕ → ℕ
doubled zero h = h
doubled (suc n) h = doubled n h * 2

shifted-double : (h : ℕ) → shifted (h * 2) ≡ h
shifted-double h = let half : h * 2 / 2 ≡ h = omega arith in shifted_even (h * 2) (omega arith) ∙ half

shifted_by-doubled : (n h : ℕ) → shifted_by n (doubled n h) ≡ h
unfolding shifted_by
shifted_by-doubled zero h = refl
shifted_by-doubled (suc n) h = ap (shifted_by n) (shifted-double (doubled n h)) ∙ shifted_by-doubled n h

-- eight bits are shifted out of a number whose lowest eight bits are 0
shifted_by-high : (h : ℕ) → shifted_by 8 (h * 256) ≡ h
shifted_by-high h = let e : h * 256 ≡ doubled 8 h = omega arith in ap (shifted_by 8) e ∙ shifted_by-doubled 8 h

split : (x : ℕ) → x ≡ bit_xor (x % 256) (x / 256 * 256)
split x =
    let low : x % 256 < 256 = omega arith in
    let parts = xor_block 8 0 (x / 256) (x % 256) 0 low (omega arith) in
    let l : 0 * 2 ^ 8 + x % 256 ≡ x % 256 = omega arith in
    let r : x / 256 * 2 ^ 8 + 0 ≡ x / 256 * 256 = omega arith in
    let whole : x ≡ bit_xor 0 (x / 256) * 2 ^ 8 + bit_xor (x % 256) 0 = rw (xor_zero_r (x % 256)) (omega arith) in
    whole ∙ sym parts ∙ rw (l, r) refl

-- what is XORed into the register is shifted alone
fold-xor : (bytes : List ℕ) (r x : ℕ) → fold after_byte (bit_xor r x) bytes ≡ bit_xor (fold after_byte r bytes) (shifted_by (8 * length bytes) x)
fold-xor [] r x = sym (ap (bit_xor r) (shifted_by-zero x))
fold-xor (b ∷ bytes) r x =
    let first : after_byte (bit_xor r x) b ≡ bit_xor (after_byte r b) (shifted_by 8 x) = ap (shifted_by 8) (swap_last r x b) ∙ shifted_by-xor 8 (bit_xor r b) x in
    let more : shifted_by (8 * length bytes) (shifted_by 8 x) ≡ shifted_by (8 * length (b ∷ bytes)) x = shifted_by_byte_first (length bytes) x in
    ap (λ (s : ℕ). fold after_byte s bytes) first ∙ fold-xor bytes (after_byte r b) (shifted_by 8 x)
    ∙ ap (bit_xor (fold after_byte (after_byte r b) bytes)) more

-- the first byte, XORed with the register's lowest, is shifted alone, and so is the rest of the register
pub fold-cons : (b : ℕ) (bytes : List ℕ) (r : ℕ)
    → fold after_byte r (b ∷ bytes) ≡ bit_xor (shifted_by (8 * length (b ∷ bytes)) (bit_xor (r % 256) b)) (fold after_byte (r / 256) bytes)
fold-cons b bytes r =
    let low = bit_xor (r % 256) b in
    let apart : bit_xor r b ≡ bit_xor low (r / 256 * 256) = ap (λ (x : ℕ). bit_xor x b) (split r) ∙ swap_last (r % 256) (r / 256 * 256) b in
    let first : after_byte r b ≡ bit_xor (r / 256) (shifted_by 8 low) =
    ap (shifted_by 8) apart ∙ shifted_by-xor 8 low (r / 256 * 256) ∙ ap (bit_xor (shifted_by 8 low)) (shifted_by-high (r / 256)) ∙ xor_comm (shifted_by 8 low) (r / 256) in
    let more : shifted_by (8 * length bytes) (shifted_by 8 low) ≡ shifted_by (8 * length (b ∷ bytes)) low = shifted_by_byte_first (length bytes) low in
    ap (λ (s : ℕ). fold after_byte s bytes) first ∙ fold-xor bytes (r / 256) (shifted_by 8 low) ∙ ap (bit_xor (fold after_byte (r / 256) bytes)) more
    ∙ xor_comm (fold after_byte (r / 256) bytes) (shifted_by (8 * length (b ∷ bytes)) low)

-- each byte is shifted out alone, XORed with the register's byte at its place
abbrev shifted_apart : ℕ → List ℕ → ℕ
shifted_apart r [] = r
shifted_apart r (b ∷ bytes) = bit_xor (shifted_by (8 * length (b ∷ bytes)) (bit_xor (r % 256) b)) (shifted_apart (r / 256) bytes)

fold-shifted_apart : (bytes : List ℕ) (r : ℕ) → fold after_byte r bytes ≡ shifted_apart r bytes
fold-shifted_apart [] r = refl
fold-shifted_apart (b ∷ bytes) r =
    fold-cons b bytes r ∙ ap (bit_xor (shifted_by (8 * length (b ∷ bytes)) (bit_xor (r % 256) b))) (fold-shifted_apart bytes (r / 256))

-- bytes after others: those before are shifted on by as many
pub fold_behind : (before behind : List ℕ) (r : ℕ)
    → fold after_byte r (before ++ behind) ≡ bit_xor (shifted_by (8 * length behind) (fold after_byte r before)) (fold after_byte 0 behind)
fold_behind before behind r =
    let register = fold after_byte r before in
    fold-append after_byte r before behind ∙ fold-xor behind 0 register ∙ xor_comm (fold after_byte 0 behind) (shifted_by (8 * length behind) register)

-- four bytes: those of the register, its lowest first, are XORed into them
pub fold_four : (a b c d r : ℕ) → r < 2 ^ 32
    → fold after_byte 0 (bit_xor (r % 256) a ∷ bit_xor (r / 256 % 256) b ∷ bit_xor (r / 65536 % 256) c ∷ bit_xor (r / 16777216 % 256) d ∷ [])
    ≡ fold after_byte r (a ∷ b ∷ c ∷ d ∷ [])
fold_four a b c d r fits =
    let third : r / 256 / 256 ≡ r / 65536 = omega arith in
    let fourth : r / 256 / 256 / 256 ≡ r / 16777216 = omega arith in
    let none : r / 256 / 256 / 256 / 256 ≡ 0 = omega arith in
    let first_two = λ (x : ℕ). bit_xor (shifted_by 32 (bit_xor (r % 256) a)) (bit_xor (shifted_by 24 (bit_xor (r / 256 % 256) b)) x) in
    let last_two = λ (x y z : ℕ). bit_xor (shifted_by 16 (bit_xor (x % 256) c)) (bit_xor (shifted_by 8 (bit_xor (y % 256) d)) z) in
    let moved : last_two (r / 256 / 256) (r / 256 / 256 / 256) (r / 256 / 256 / 256 / 256) ≡ last_two (r / 65536) (r / 16777216) 0 = λ i. last_two (third i) (fourth i) (none i) in
    fold-shifted_apart (bit_xor (r % 256) a ∷ bit_xor (r / 256 % 256) b ∷ bit_xor (r / 65536 % 256) c ∷ bit_xor (r / 16777216 % 256) d ∷ []) 0
    ∙ sym (fold-shifted_apart (a ∷ b ∷ c ∷ d ∷ []) r ∙ ap first_two moved)

-- four bytes and n bytes of zeros after them, as the code takes them: each is shifted out alone
pub fold_four_apart : (a b c d n : ℕ)
    → bit_xor (bit_xor (bit_xor (shifted_by (8 * (n + 3 + 1)) a) (shifted_by (8 * (n + 2 + 1)) b)) (shifted_by (8 * (n + 1 + 1)) c)) (shifted_by (8 * (n + 1)) d)
    ≡ shifted_by (8 * n) (fold after_byte 0 (a ∷ b ∷ c ∷ d ∷ []))
fold_four_apart a b c d n =
    let on = shifted_by (8 * n) in
    let a_on : on (shifted_by 32 a) ≡ shifted_by (8 * (n + 3 + 1)) a = let e : 32 + 8 * n ≡ 8 * (n + 3 + 1) = omega arith in sym (shifted_by-add 32 (8 * n) a) ∙ ap (λ (k : ℕ). shifted_by k a) e in
    let b_on : on (shifted_by 24 b) ≡ shifted_by (8 * (n + 2 + 1)) b = let e : 24 + 8 * n ≡ 8 * (n + 2 + 1) = omega arith in sym (shifted_by-add 24 (8 * n) b) ∙ ap (λ (k : ℕ). shifted_by k b) e in
    let c_on : on (shifted_by 16 c) ≡ shifted_by (8 * (n + 1 + 1)) c = let e : 16 + 8 * n ≡ 8 * (n + 1 + 1) = omega arith in sym (shifted_by-add 16 (8 * n) c) ∙ ap (λ (k : ℕ). shifted_by k c) e in
    let d_on : on (shifted_by 8 d) ≡ shifted_by (8 * (n + 1)) d = let e : 8 + 8 * n ≡ 8 * (n + 1) = omega arith in sym (shifted_by-add 8 (8 * n) d) ∙ ap (λ (k : ℕ). shifted_by k d) e in
    let x = shifted_by 32 a in
    let y = shifted_by 24 b in
    let z = shifted_by 16 c in
    let w = shifted_by 8 d in
    let turned : fold after_byte 0 (a ∷ b ∷ c ∷ d ∷ []) ≡ bit_xor (bit_xor (bit_xor x y) z) w =
    fold-shifted_apart (a ∷ b ∷ c ∷ d ∷ []) 0 ∙ ap (λ (l : ℕ). bit_xor x (bit_xor y (bit_xor z l))) (xor_zero_r w)
    ∙ sym (xor_assoc (bit_xor x y) z w ∙ xor_assoc x y (bit_xor z w)) in
    let apart : on (bit_xor (bit_xor (bit_xor x y) z) w) ≡ bit_xor (bit_xor (bit_xor (on x) (on y)) (on z)) (on w) =
    shifted_by-xor (8 * n) (bit_xor (bit_xor x y) z) w
    ∙ ap (λ (l : ℕ). bit_xor l (on w)) (shifted_by-xor (8 * n) (bit_xor x y) z ∙ ap (λ (l : ℕ). bit_xor l (on z)) (shifted_by-xor (8 * n) x y)) in
    sym (ap on turned ∙ apart ∙ ap₂ bit_xor (ap₂ bit_xor (ap₂ bit_xor a_on b_on) c_on) d_on)

-- sixteen bytes, four by four, as the code takes them
pub fold_sixteen : (first second third fourth : List ℕ) (r : ℕ) → length second ≡ 4 → length third ≡ 4 → length fourth ≡ 4
    → fold after_byte r (first ++ (second ++ (third ++ fourth)))
    ≡ bit_xor (shifted_by 96 (fold after_byte r first))
    (bit_xor (bit_xor (shifted_by 64 (fold after_byte 0 second)) (shifted_by 32 (fold after_byte 0 third))) (fold after_byte 0 fourth))
fold_sixteen first second third fourth r two three four =
    let counted : 8 * length (second ++ (third ++ fourth)) ≡ 96 = rw (length-append second (third ++ fourth), length-append third fourth, two, three, four) refl in
    let counted_third : 8 * length (third ++ fourth) ≡ 64 = rw (length-append third fourth, three, four) refl in
    let behind : fold after_byte 0 (second ++ (third ++ fourth))
    ≡ bit_xor (bit_xor (shifted_by 64 (fold after_byte 0 second)) (shifted_by 32 (fold after_byte 0 third))) (fold after_byte 0 fourth) =
    fold_behind second (third ++ fourth) 0
    ∙ ap₂ bit_xor (ap (λ (k : ℕ). shifted_by k (fold after_byte 0 second)) counted_third)
    (fold_behind third fourth 0 ∙ ap (λ (k : ℕ). bit_xor (shifted_by (8 * k) (fold after_byte 0 third)) (fold after_byte 0 fourth)) four)
    ∙ sym (xor_assoc (shifted_by 64 (fold after_byte 0 second)) (shifted_by 32 (fold after_byte 0 third)) (fold after_byte 0 fourth)) in
    fold_behind first (second ++ (third ++ fourth)) r
    ∙ ap₂ bit_xor (ap (λ (k : ℕ). shifted_by k (fold after_byte r first)) counted) behind
