-- Numbers of attribute types that are laid over C's, one after the other.
use Rattle.std.proofs.Common.{◌≡◌, ℕ, zero, suc, ◌+◌, ◌-◌, ◌*◌, ◌≤◌, Bool, true, List, [], ◌∷◌, ◌++◌, length, take, drop, set, min, slice_range, Option, None, Some, refl, ap, ◌∙◌, sym, add-one, arith}
use Rattle.std.proofs.lemmas.List.{map-append, length-append, length-map, drop-drop}
use Rattle.std.proofs.lemmas.List.Sums.{length-filter, count_by-le-length}
use Rattle.stun_grammar.specs.declared.attribute_type.AttributeType.{AttributeType}
use Rattle.stun_grammar.specs.declared.error.StunParseError.{StunParseError}
use Rattle.stun_grammar.specs.Numbers.{number}
use Rattle.stun_grammar.specs.Adding.{numbers}
use Rattle.stun_grammar.specs.Chains.{Shown}
use Rattle.stun_grammar.specs.Showing.{frame_fault, shown}
use Rattle.stun_text.specs.Slices.{laid_over}
use Rattle.stun_values.specs.TypeLists.{types_within}
use Rattle.stun_types.specs.Iterating.{borrowed}
use Rattle.stun_types.specs.Replies.{is_unknown, shown_types, unknown_types}
use Rattle.stun_types.proofs.IteratingLemmas.{from_start, unframed, length-items}

-- one more number is laid over, if there is room for it
pub laid_more : (found start : List ℕ) (x : ℕ) → set (laid_over found start) (length found) x ≡ laid_over (found ++ x ∷ []) start
laid_more [] [] x = refl
laid_more [] (s ∷ []) x = refl
laid_more [] (s ∷ t ∷ start) x = refl
laid_more (f ∷ found) [] x = refl
laid_more (f ∷ found) (s ∷ start) x = ap (λ (l : List ℕ). f ∷ l) (laid_more found start x)

-- ---- The types in a value

-- how many they are
pub count_within : (n : ℕ) (value : List ℕ) → length (types_within n value) ≡ n
count_within zero value = refl
count_within (suc n) value = ap suc (count_within n (drop 2 value))

-- one more is read
within_more : (n : ℕ) (value : List ℕ) → types_within (suc n) value ≡ types_within n value ++ number (take 2 (drop (2 * n) value)) ∷ []
within_more zero value = refl
within_more (suc n) value =
    let place : 2 + 2 * n ≡ 2 * suc n = omega arith in
    ap (λ (l : List ℕ). number (take 2 value) ∷ l)
    (within_more n (drop 2 value) ∙ ap (λ (b : List ℕ). types_within n (drop 2 value) ++ number (take 2 b) ∷ []) (drop-drop (2 * n) 2 value ∙ ap (λ (k : ℕ). drop k value) place))

-- one more is laid over
pub read_more : (n : ℕ) (value places start : List ℕ) (x : ℕ) → x ≡ number (slice_range value (2 * n) (2 * n + 2)) → places ≡ laid_over (types_within n value) start
    → set places n x ≡ laid_over (types_within (n + 1) value) start
read_more n value places start x x-is so_far =
    let found = types_within n value in
    let width : 2 * n + 2 - 2 * n ≡ 2 = omega arith in
    let next : x ≡ number (take 2 (drop (2 * n) value)) = x-is ∙ ap (λ (k : ℕ). number (take k (drop (2 * n) value))) width in
    let more : types_within (n + 1) value ≡ found ++ x ∷ [] =
    ap (λ (k : ℕ). types_within k value) (add-one n) ∙ within_more n value ∙ ap (λ (y : ℕ). found ++ y ∷ []) (sym next) in
    (λ j. set (so_far j) (sym (count_within n value) j) x) ∙ laid_more found start x ∙ ap (λ (l : List ℕ). laid_over l start) (sym more)

-- as many as there is room for are as good as all
pub read_enough : (n all : ℕ) (value start : List ℕ) → n ≡ min (length start) all → laid_over (types_within n value) start ≡ laid_over (types_within all value) start
read_enough zero zero value start e = refl
read_enough zero (suc all) value [] e = refl
read_enough zero (suc all) value (s ∷ start) e = absurd (omega (arith, e))
read_enough (suc n) zero value start e = absurd (omega (arith, e))
read_enough (suc n) (suc all) value [] e = absurd (omega (arith, e))
read_enough (suc n) (suc all) value (s ∷ start) e = ap (λ (l : List ℕ). number (take 2 value) ∷ l) (read_enough n all (drop 2 value) start (omega (arith, e)))

-- ---- Types and their numbers

-- one more type is reported: it is counted, and its number is laid over
abbrev pub Reported : (types : List AttributeType) (count : ℕ) (places start : List ℕ) → Type 0
Reported types count places start = (count ≡ length types) × (places ≡ laid_over (numbers types) start)

pub reported_more : (types : List AttributeType) (type : AttributeType) (count next : ℕ) (places new start : List ℕ) → Reported types count places start → next ≡ count + 1 → new ≡ set places count type.0
    → Reported (types ++ type ∷ []) next new start
reported_more types type count next places new start so_far next-is new-is =
    let found = numbers types in
    let more : numbers (types ++ type ∷ []) ≡ found ++ type.0 ∷ [] = map-append (λ (t : AttributeType). t.0) types (type ∷ []) in
    let same : count ≡ length found = so_far.0 ∙ sym (length-map types (λ (t : AttributeType). t.0)) in
    let laid : new ≡ laid_over (found ++ type.0 ∷ []) start = new-is ∙ (λ j. set (so_far.1 j) (same j) type.0) ∙ laid_more found start type.0 in (
      omega (arith, length-append types (type ∷ []), so_far.0, next-is),
      laid ∙ ap (λ (l : List ℕ). laid_over l start) (sym more),
    )

-- a message shows no more attributes than it has bytes, so no more types
shown_few : (d : List ℕ) (fault : Option StunParseError) → frame_fault d ≡ fault → length (shown d) ≤ length d
shown_few d None whole = omega (arith, length-items 0 20 d, ap (λ (s : List Shown). length (borrowed s)) (from_start d whole), length-map {B = Shown × Bool} (shown d) (λ (a : Shown). (a, true)))
shown_few d (Some e) fault = omega (arith, ap length (unframed d e fault))

pub few_unknown : (supported : List AttributeType) (d : List ℕ) → length (unknown_types supported d) ≤ length d
few_unknown supported d =
    let test = is_unknown supported in
    omega (arith, length-filter test (shown_types d), count_by-le-length test (shown_types d), length-map {B = AttributeType} (shown d) (λ (a : Shown). record { 0 = a.type }), shown_few d (frame_fault d) refl)
