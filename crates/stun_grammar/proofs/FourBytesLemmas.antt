-- Four bytes, and the number that they encode.
use Rattle.std.proofs.Common.{◌≡◌, ℕ, ◌+◌, ◌*◌, List, [], ◌∷◌, length, get_or, eqb, refl, sym, ap, ◌∙◌, bytes_eq, arith}
use Rattle.std.proofs.lemmas.Bool.{eqb-true, eq-eqb}
use Rattle.std.proofs.lemmas.Bool.Decides.{same_from_decides}
use Rattle.std.proofs.lemmas.Slice.Eq.{bytes_eq-Decides}
use Rattle.stun_grammar.specs.Numbers.{number, IsBytes}
use Rattle.stun_grammar.proofs.NumbersLemmas.{IsBytes-get}

four : (b : List ℕ) → length b ≡ 4 → b ≡ get_or b 0 0 ∷ (get_or b 1 0 ∷ (get_or b 2 0 ∷ (get_or b 3 0 ∷ [])))
four [] e = absurd (omega (arith, e))
four (p ∷ []) e = absurd (omega (arith, e))
four (p ∷ (q ∷ [])) e = absurd (omega (arith, e))
four (p ∷ (q ∷ (r ∷ []))) e = absurd (omega (arith, e))
four (p ∷ (q ∷ (r ∷ (s ∷ [])))) e = refl
four (p ∷ (q ∷ (r ∷ (s ∷ (t ∷ b))))) e = absurd (omega (arith, e))

pub number-four : (b : List ℕ) → length b ≡ 4 → number b ≡ 16777216 * get_or b 0 0 + (65536 * get_or b 1 0 + (256 * get_or b 2 0 + get_or b 3 0))
number-four [] e = absurd (omega (arith, e))
number-four (p ∷ []) e = absurd (omega (arith, e))
number-four (p ∷ (q ∷ [])) e = absurd (omega (arith, e))
number-four (p ∷ (q ∷ (r ∷ []))) e = absurd (omega (arith, e))
number-four (p ∷ (q ∷ (r ∷ (s ∷ [])))) e = omega arith
number-four (p ∷ (q ∷ (r ∷ (s ∷ (t ∷ b))))) e = absurd (omega (arith, e))

-- four bytes are determined by their number
same_bytes : (xs ys : List ℕ) → length xs ≡ 4 → length ys ≡ 4 → IsBytes xs → IsBytes ys → number xs ≡ number ys → xs ≡ ys
same_bytes xs ys e f bytes others same =
    let x = number-four xs e in
    let y = number-four ys f in
    let a : get_or xs 0 0 ≡ get_or ys 0 0 = omega (arith, same, x, y, IsBytes-get xs bytes 1, IsBytes-get xs bytes 2, IsBytes-get xs bytes 3, IsBytes-get ys others 1, IsBytes-get ys others 2, IsBytes-get ys others 3) in
    let b : get_or xs 1 0 ≡ get_or ys 1 0 = omega (arith, same, x, y, a, IsBytes-get xs bytes 2, IsBytes-get xs bytes 3, IsBytes-get ys others 2, IsBytes-get ys others 3) in
    let c : get_or xs 2 0 ≡ get_or ys 2 0 = omega (arith, same, x, y, a, b, IsBytes-get xs bytes 3, IsBytes-get ys others 3) in
    let d : get_or xs 3 0 ≡ get_or ys 3 0 = omega (arith, same, x, y, a, b, c) in
    four xs e ∙ rw (a, b, c, d) (sym (four ys f))

-- to compare their numbers is to compare four bytes
pub same_four : (xs ys : List ℕ) → length xs ≡ 4 → length ys ≡ 4 → IsBytes xs → IsBytes ys → eqb (number xs) (number ys) ≡ bytes_eq xs ys
same_four xs ys e f bytes others =
    same_from_decides (eqb (number xs) (number ys)) (bytes_eq xs ys)
    (λ same. same_bytes xs ys e f bytes others (eqb-true _ _ same), λ is. eq-eqb _ _ (ap number is))
    (bytes_eq-Decides xs ys)
