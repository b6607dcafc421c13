-- The texts of items, with a comma and a space between them.
use Rattle.std.proofs.Common.{◌≡◌, ℕ, ◌+◌, ◌<◌, List, [], ◌∷◌, ◌++◌, length, get_or, take, sym, ap, ◌∙◌, arith, append_assoc, append-nil}
use Rattle.std.specs.Prelude.{codes}
use Rattle.std.specs.List.{flat_map}
use Rattle.std.proofs.lemmas.List.{take_more, length-take}
use Rattle.std.proofs.lemmas.List.Concat.{flat_map-cons}
use Rattle.std.proofs.lemmas.Grind.{flat_map-append}
use Rattle.stun_text.specs.Lists.{with_commas, comma_before}

module _ {A : Type 0} (text : A → List ℕ) where
  -- one more item
  pub commas_more : (xs : List A) (x : A) → with_commas text xs ++ (comma_before (length xs) ++ text x) ≡ with_commas text (xs ++ x ∷ [])
  commas_more [] x = sym (append-nil (text x))
  commas_more (first ∷ others) x =
      let one : flat_map (λ other. codes ", " ++ text other) (x ∷ []) ≡ codes ", " ++ text x = flat_map-cons (λ other. codes ", " ++ text other) x [] ∙ append-nil (codes ", " ++ text x) in
      append_assoc (text first) _ _
      ∙ ap (λ (l : List ℕ). text first ++ l) (ap (λ (l : List ℕ). flat_map (λ other. codes ", " ++ text other) others ++ l) (sym one) ∙ sym (flat_map-append (λ other. codes ", " ++ text other) others (x ∷ [])))

  -- one item more of a list
  pub commas_next : (xs : List A) (i : ℕ) (d : A) → i < length xs → with_commas text (take i xs) ++ (comma_before i ++ text (get_or xs i d)) ≡ with_commas text (take (i + 1) xs)
  commas_next xs i d within =
      let count : length (take i xs) ≡ i = omega (arith, length-take i xs, within) in
      ap (λ (n : ℕ). with_commas text (take i xs) ++ (comma_before n ++ text (get_or xs i d))) (sym count) ∙ commas_more (take i xs) (get_or xs i d)
      ∙ ap (with_commas text) (sym (take_more xs i d within))
