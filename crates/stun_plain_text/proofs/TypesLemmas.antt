-- The types in a value, two bytes for each, one text after the other.
use Rattle.std.proofs.Common.{◌≡◌, ℕ, zero, suc, ◌+◌, ◌-◌, ◌*◌, List, [], ◌∷◌, ◌++◌, length, take, drop, slice_range, refl, sym, ap, ◌∙◌, add-one, arith}
use Rattle.std.proofs.lemmas.List.{drop-drop}
use Rattle.stun_text.specs.Lists.{with_commas, comma_before}
use Rattle.stun_text.proofs.ListsLemmas.{commas_more}
use Rattle.stun_grammar.specs.Numbers.{number}
use Rattle.stun_values.specs.TypeLists.{types_within}

count_within : (n : ℕ) (value : List ℕ) → length (types_within n value) ≡ n
count_within zero value = refl
count_within (suc n) value = ap suc (count_within n (drop 2 value))

within_more : (n : ℕ) (value : List ℕ) → types_within (suc n) value ≡ types_within n value ++ number (take 2 (drop (2 * n) value)) ∷ []
within_more zero value = refl
within_more (suc n) value =
    let place : 2 + 2 * n ≡ 2 * suc n = omega arith in
    ap (λ (l : List ℕ). number (take 2 value) ∷ l)
    (within_more n (drop 2 value) ∙ ap (λ (b : List ℕ). types_within n (drop 2 value) ++ number (take 2 b) ∷ []) (drop-drop (2 * n) 2 value ∙ ap (λ (k : ℕ). drop k value) place))

-- the text of one more type
pub types_more : (text : ℕ → List ℕ) (i type : ℕ) (value : List ℕ) → type ≡ number (slice_range value (2 * i) (2 * i + 2))
    → with_commas text (types_within i value) ++ (comma_before i ++ text type) ≡ with_commas text (types_within (i + 1) value)
types_more text i type value is =
    let found = types_within i value in
    let width : 2 * i + 2 - 2 * i ≡ 2 = omega arith in
    let next : type ≡ number (take 2 (drop (2 * i) value)) = is ∙ ap (λ (k : ℕ). number (take k (drop (2 * i) value))) width in
    let more : types_within (i + 1) value ≡ found ++ type ∷ [] =
    ap (λ (k : ℕ). types_within k value) (add-one i) ∙ within_more i value ∙ ap (λ (n : ℕ). found ++ n ∷ []) (sym next) in
    ap (λ (k : ℕ). with_commas text found ++ (comma_before k ++ text type)) (sym (count_within i value))
    ∙ commas_more text found type ∙ ap (with_commas text) (sym more)
