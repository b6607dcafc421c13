-- A group of an IPv6 address is a number in hexadecimal.
use Rattle.std.proofs.Common.{◌≡◌, ℕ, ◌/◌, ◌%◌, ◌^◌, ◌<◌, ◌≤◌, false, [], ◌∷◌, ◌∙◌, arith, rules, ⊎_elim, sym, refl}
use Rattle.std.specs.Fmt.{digits, digit_glyph}
use Rattle.std.proofs.lemmas.Bool.{cases_lt}
use Rattle.std.proofs.lemmas.Grind.{common_steps}
use Rattle.std.specs.Net.Text.{hex}
use Rattle.stun_text.proofs.HexLemmas.{hex_step, hex_last}

one : (n : ℕ) → n < 16 → hex n ≡ digit_glyph false (n % 16) ∷ []
unfolding hex
one n small = first_of (search rules, grind (arith, common_steps))

two : (n : ℕ) → 16 ≤ n → n < 256 → hex n ≡ digit_glyph false (n / 16 % 16) ∷ digit_glyph false (n % 16) ∷ []
unfolding hex
two n large small = first_of (search rules, grind (arith, common_steps))

three : (n : ℕ) → 256 ≤ n → n < 4096 → hex n ≡ digit_glyph false (n / 256 % 16) ∷ digit_glyph false (n / 16 % 16) ∷ digit_glyph false (n % 16) ∷ []
unfolding hex
three n large small = first_of (search rules, grind (arith, common_steps))

four : (n : ℕ) → 4096 ≤ n → n < 65536 → hex n ≡ digit_glyph false (n / 4096) ∷ digit_glyph false (n / 256 % 16) ∷ digit_glyph false (n / 16 % 16) ∷ digit_glyph false (n % 16) ∷ []
unfolding hex
four n large small = first_of (search rules, grind (arith, common_steps))

-- what the digits are of numbers of two, three and four digits
shown_two : (n : ℕ) → 16 ≤ n → n < 256 → digits 16 false n ≡ digit_glyph false (n / 16 % 16) ∷ digit_glyph false (n % 16) ∷ []
shown_two n large small = rw (hex_step n large (omega arith), hex_last (n / 16) (omega arith)) refl

shown_three : (n : ℕ) → 256 ≤ n → n < 4096 → digits 16 false n ≡ digit_glyph false (n / 256 % 16) ∷ digit_glyph false (n / 16 % 16) ∷ digit_glyph false (n % 16) ∷ []
shown_three n large small =
    let place : n / 16 / 16 ≡ n / 256 = omega arith in
    rw (hex_step n (omega arith) (omega arith), shown_two (n / 16) (omega arith) (omega arith), place) refl

shown_four : (n : ℕ) → 4096 ≤ n → n < 65536 → digits 16 false n ≡ digit_glyph false (n / 4096) ∷ digit_glyph false (n / 256 % 16) ∷ digit_glyph false (n / 16 % 16) ∷ digit_glyph false (n % 16) ∷ []
shown_four n large small =
    let place : n / 16 / 16 ≡ n / 256 = omega arith in
    let first : n / 16 / 256 % 16 ≡ n / 4096 = omega arith in
    rw (hex_step n (omega arith) (omega arith), shown_three (n / 16) (omega arith) (omega arith), place, first) refl

pub group_is : (n : ℕ) → n < 2 ^ 16 → hex n ≡ digits 16 false n
group_is n small = ⊎_elim
    (λ a. one n a ∙ sym (hex_last n a))
    (λ b. ⊎_elim
    (λ a. two n b a ∙ sym (shown_two n b (omega arith)))
    (λ c. ⊎_elim
    (λ a. three n c a ∙ sym (shown_three n c (omega arith)))
    (λ d. four n d small ∙ sym (shown_four n d (omega arith)))
    (cases_lt n 4096))
    (cases_lt n 256))
    (cases_lt n 16)
