-- The longest prefix of a list with one member more.
use Rattle.std.proofs.Common.{◌≡◌, ℕ, zero, suc, ◌≤◌, Bool, List, [], ◌∷◌, ◌++◌, length, refl, ap, ◌∙◌, arith}
use Rattle.std.specs.Prelude.{if◌then◌else◌}
use Rattle.std.proofs.lemmas.List.{take-append-le, take_all, length-append}
use Rattle.stun_grammar.specs.Prefixes.{longest_within, longest_prefix}

module _ {A : Type 0} where
  within_more : (n : ℕ) (passes : List A → Bool) (xs ys : List A) → n ≤ length xs → longest_within n passes (xs ++ ys) ≡ longest_within n passes xs
  unfolding longest_within
  within_more zero passes xs ys le = refl
  within_more (suc n) passes xs ys le = rw (take-append-le (suc n) xs ys le, within_more n passes xs ys (omega arith)) refl

  within_whole : (n : ℕ) (passes : List A → Bool) (xs : List A) → length xs ≡ suc n → longest_within (suc n) passes xs ≡ if passes xs then xs else longest_within n passes xs
  unfolding longest_within
  within_whole n passes xs e = rw (take_all (suc n) xs (omega (arith, e))) refl

  -- it is the whole, if that passes
  pub longest_more : (passes : List A → Bool) (xs : List A) (x : A) → longest_prefix passes (xs ++ x ∷ []) ≡ if passes (xs ++ x ∷ []) then xs ++ x ∷ [] else longest_prefix passes xs
  unfolding longest_prefix
  longest_more passes xs x =
      let size : length (xs ++ x ∷ []) ≡ suc (length xs) = omega (arith, length-append xs (x ∷ [])) in
      ap (λ (n : ℕ). longest_within n passes (xs ++ x ∷ [])) size
      ∙ within_whole (length xs) passes (xs ++ x ∷ []) size
      ∙ ap (λ (ys : List A). if passes (xs ++ x ∷ []) then xs ++ x ∷ [] else ys) (within_more (length xs) passes xs (x ∷ []) (omega arith))
