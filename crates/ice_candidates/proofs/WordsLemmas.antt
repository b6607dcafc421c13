-- Words and the first space of a text.
use Rattle.std.proofs.Common.{◌≡◌, ℕ, ◌+◌, ◌<◌, eqb, List, [], ◌∷◌, length, refl, ap, arith, inl, inr}
use Rattle.std.specs.List.{onto_first, position_or_len, before_first, after_first}
use Rattle.std.proofs.lemmas.Bool.{cases_Bool}
use Rattle.std.proofs.lemmas.List.Splits.{slice_split_first, join_with_byte-slice_split}
use Rattle.ice_candidates.specs.Words.{words, size_of}

-- a text without a space is one word
pub words_none : (text : List ℕ) → position_or_len (λ c. eqb c 32) text ≡ length text → words text ≡ text ∷ []
words_none [] e = refl
words_none (c ∷ text) e = elim (cases_Bool (eqb c 32)) [
  | inl space ↦ absurd (let none : 0 ≡ length (c ∷ text) = rw space at e in omega (arith, none))
  | inr other ↦
      let more : 1 + position_or_len (λ x. eqb x 32) text ≡ length (c ∷ text) = rw other at e in
      rw other (ap (onto_first c) (words_none text (omega (arith, more))))
]

-- the first word ends at the first space
pub words_first : (text : List ℕ) → position_or_len (λ c. eqb c 32) text < length text
    → words text ≡ before_first (λ c. eqb c 32) text ∷ words (after_first (λ c. eqb c 32) text)
words_first text h = slice_split_first (λ c. eqb c 32) text 0 h

pub size-words : (text : List ℕ) → size_of (words text) ≡ length text
size-words text = ap length (join_with_byte-slice_split 32 text)
