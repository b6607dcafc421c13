-- The types in a value, two bytes for each.
use Rattle.std.proofs.Common.{◌≡◌, ℕ, zero, suc, ◌+◌, ◌-◌, ◌*◌, ◌/◌, ◌<◌, List, length, get_or, take, drop, slice_range, refl, sym, ap, ◌∙◌, arith}
use Rattle.std.proofs.lemmas.List.{drop-drop}
use Rattle.stun_grammar.specs.Numbers.{number}
use Rattle.stun_values.specs.TypeLists.{types_within, types_in}

count_within : (n : ℕ) (value : List ℕ) → length (types_within n value) ≡ n
count_within zero value = refl
count_within (suc n) value = ap suc (count_within n (drop 2 value))

-- how many they are
pub count_of_types : (value : List ℕ) → length (types_in value) ≡ length value / 2
count_of_types value = count_within (length value / 2) value

-- the one at an index
at_index : (n i : ℕ) (value : List ℕ) → i < n → get_or (types_within n value) i 0 ≡ number (take 2 (drop (2 * i) value))
at_index zero i value within = absurd (omega arith)
at_index (suc n) zero value within = refl
at_index (suc n) (suc i) value within =
    let place : 2 * i + 2 ≡ 2 * suc i = omega arith in
    let there : 2 + 2 * i ≡ 2 * suc i = omega arith in
    at_index n i (drop 2 value) (omega arith) ∙ ap (λ (l : List ℕ). number (take 2 l)) (drop-drop (2 * i) 2 value ∙ ap (λ (k : ℕ). drop k value) there)

pub type_at : (n i : ℕ) (value : List ℕ) → i < n → get_or (types_within n value) i 0 ≡ number (slice_range value (2 * i) (2 * i + 2))
type_at n i value within =
    let width : 2 * i + 2 - 2 * i ≡ 2 = omega arith in
    at_index n i value within ∙ ap (λ (k : ℕ). number (take k (drop (2 * i) value))) (sym width)
