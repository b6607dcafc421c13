-- A transaction ID of at most 24 digits, and no sign, is below 2^96.
use Rattle.std.proofs.Common.{◌≡◌, ℕ, zero, suc, ◌%◌, ◌<◌, ◌≤◌, ◌^◌, Bool, true, false, cond, List, [], ◌∷◌, length, drop, Option, None, Some, Result, Ok, Err, refl, sym, ap, subst, ◌∙◌, arith}
use Rattle.std.specs.Prelude.{◌==◌, slice_index}
use Rattle.std.specs.Option.{unwrap_or}
use Rattle.std.specs.Result.{result_ok}
use Rattle.std.specs.Char.{digit_value}
use Rattle.std.specs.Str.Parse.{AllDigits, IsNumeral, ParsesUnsigned, digits_value, without_leading_plus}
use Rattle.std.proofs.lemmas.Bool.{eqb-true}
use Rattle.std.proofs.lemmas.Grind.{pow_more}
use Rattle.std.proofs.lemmas.Int.Digits.{digits_value-lt}
use Rattle.stun.specs.Arguments.{IsIdText}

plain : (t : List ℕ) → (slice_index t 0 == 43) ≡ false → without_leading_plus t ≡ t
plain t e = ap (λ (b : Bool). drop (cond b 1 0) t) e

up_to : (n m : ℕ) → n ≤ m → 16 ^ n ≤ 16 ^ m
up_to zero zero le = omega arith
up_to zero (suc m) le = omega (arith, up_to zero m (omega arith), pow_more 16 m)
up_to (suc n) zero le = absurd (omega (arith, le))
up_to (suc n) (suc m) le = omega (arith, up_to n m (omega (arith, le)), pow_more 16 n, pow_more 16 m)

small : (t : List ℕ) → AllDigits 16 t → length t ≤ 24 → digits_value 16 t < 2 ^ 96
small t digits short =
    let below : digits_value 16 t < 16 ^ length t = digits_value-lt 16 t digits in
    let most : 16 ^ length t ≤ 16 ^ 24 = up_to (length t) 24 short in
    let same : 16 ^ 24 ≡ 2 ^ 96 = refl in
    omega (arith, below, most, same)

-- a text with a plus is no transaction ID
pub signed : (t : List ℕ) → (slice_index t 0 == 43) ≡ true → (id : ℕ) → ¬ (IsIdText t id)
signed [] sign id is = omega (arith, is.0.0)
signed (c ∷ cs) sign id is =
    let digit : digit_value 43 < 16 = subst (λ (d : ℕ). digit_value d < 16) (eqb-true c 43 sign) is.0.1.0 in
    omega (arith, digit)

-- nor is one that isn't read as a number of 128 bits
pub refused : {E : Type 0} (t : List ℕ) (r : Result ℕ E) → (slice_index t 0 == 43) ≡ false → ParsesUnsigned 128 16 t r → result_ok r ≡ None → (id : ℕ) → ¬ (IsIdText t id)
refused t (Ok n) sign parses none id is = absurd cc
refused t (Err e) sign parses none id is =
    let least : digits_value 16 t < 2 ^ 96 = small t is.0.1 is.1 in
    parses (subst (λ (ds : List ℕ). IsNumeral 16 ds × (digits_value 16 ds < 2 ^ 128)) (sym (plain t sign)) (is.0, omega (arith, least)))

-- and one that is, is its transaction ID
pub read : {E : Type 0} (t : List ℕ) (r : Result ℕ E) (n : ℕ) → (slice_index t 0 == 43) ≡ false → length t ≤ 24 → ParsesUnsigned 128 16 t r → result_ok r ≡ Some n → IsIdText t (n % 2 ^ 96)
read t (Ok m) n sign short parses some =
    let numeral : IsNumeral 16 t = subst (λ (ds : List ℕ). IsNumeral 16 ds) (plain t sign) parses.0.0 in
    let value : digits_value 16 t ≡ m = ap (λ (ds : List ℕ). digits_value 16 ds) (sym (plain t sign)) ∙ sym parses.1 in
    let least : digits_value 16 t < 2 ^ 96 = small t numeral.1 short in
    let same : m ≡ n = ap (λ (o : Option ℕ). unwrap_or o 0) some in
    (numeral, short, omega (arith, value, least, same))
read t (Err e) n sign short parses some = absurd cc
