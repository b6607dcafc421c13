-- Values that are what their types ask for, one after the other.
use Rattle.std.proofs.Common.{◌≡◌, ℕ, suc, ◌+◌, ◌-◌, ◌*◌, ◌<◌, ◌≤◌, Bool, true, false, List, [], ◌∷◌, ◌++◌, map, drop, Option, Some, None, refl, sym, ap, ◌∙◌, arith}
use Rattle.std.proofs.lemmas.List.{drop-drop, map-append}
use Rattle.std.proofs.lemmas.List.Folds.{list_any-append}
use Rattle.std.specs.List.{list_any}
use Rattle.std.specs.Option.{option_or}
use Rattle.std.specs.Prelude.{◌||◌}
use Rattle.stun_grammar.specs.declared.error.StunParseError.{StunParseError}
use Rattle.stun_grammar.specs.Chains.{Shown}
use Rattle.stun_attributes.specs.declared.wire.raw.RawAttribute.{RawAttribute}
use Rattle.stun_types.specs.Iterating.{item_view}
use Rattle.stun.specs.Values.{parameters_fault, parameters_within, is_malformed}

-- ---- Password algorithms in entries of four bytes, none of which has parameters

next_is : (more : ℕ) (value : List ℕ) → parameters_fault value ≡ None → parameters_within (suc more) value ≡ parameters_within more (drop 4 value)
unfolding parameters_within
next_is more value none = ap (λ (o : Option StunParseError). option_or o (parameters_within more (drop 4 value))) none

first_is : (more : ℕ) (value : List ℕ) (e : StunParseError) → parameters_fault value ≡ Some e → parameters_within (suc more) value ≡ Some e
unfolding parameters_within
first_is more value e some = ap (λ (o : Option StunParseError). option_or o (parameters_within more (drop 4 value))) some

-- the next entry has none
pub each_next : (n i : ℕ) (value : List ℕ) → i < n → parameters_fault (drop (4 * i) value) ≡ None → parameters_within n value ≡ parameters_within (n - i) (drop (4 * i) value)
    → parameters_within n value ≡ parameters_within (n - (i + 1)) (drop (4 * (i + 1)) value)
each_next n i value more none so_far =
    let count : n - i ≡ suc (n - (i + 1)) = omega arith in
    let place : 4 * i + 4 ≡ 4 * (i + 1) = omega arith in
    so_far ∙ ap (λ (k : ℕ). parameters_within k (drop (4 * i) value)) count ∙ next_is (n - (i + 1)) (drop (4 * i) value) none
    ∙ ap (parameters_within (n - (i + 1))) (drop-drop 4 (4 * i) value ∙ ap (λ (k : ℕ). drop k value) place)

-- the next entry has some
pub each_fault : (n i : ℕ) (value : List ℕ) (e : StunParseError) → i < n → parameters_fault (drop (4 * i) value) ≡ Some e → parameters_within n value ≡ parameters_within (n - i) (drop (4 * i) value)
    → parameters_within n value ≡ Some e
each_fault n i value e more some so_far =
    let count : n - i ≡ suc (n - (i + 1)) = omega arith in
    so_far ∙ ap (λ (k : ℕ). parameters_within k (drop (4 * i) value)) count ∙ first_is (n - (i + 1)) (drop (4 * i) value) e some

-- no entry is left
pub each_done : (n i : ℕ) (value : List ℕ) → n ≤ i → parameters_within n value ≡ parameters_within (n - i) (drop (4 * i) value) → parameters_within n value ≡ None
unfolding parameters_within
each_done n i value done so_far =
    let count : n - i ≡ 0 = omega arith in
    so_far ∙ ap (λ (k : ℕ). parameters_within k (drop (4 * i) value)) count

-- ---- Attributes

or_none : (b : Bool) → (b || false) ≡ b
or_none true = refl
or_none false = refl

any_more : (attributes : List Shown) (a : Shown) → list_any is_malformed (attributes ++ a ∷ []) ≡ (list_any is_malformed attributes || is_malformed a)
any_more attributes a = list_any-append is_malformed attributes (a ∷ []) ∙ ap (λ (b : Bool). list_any is_malformed attributes || b) (or_none (is_malformed a))

-- one more attribute is malformed, or one before it is
pub next_found : (items : List (ℕ × RawAttribute)) (item : ℕ × RawAttribute) (found other : Bool) → found ≡ list_any is_malformed (map (λ (x : ℕ × RawAttribute). (item_view x).0) items) → other ≡ is_malformed (item_view item).0
    → (found || other) ≡ list_any is_malformed (map (λ (x : ℕ × RawAttribute). (item_view x).0) (items ++ item ∷ []))
next_found items item found other before last =
    let view : ℕ × RawAttribute → Shown = λ x. (item_view x).0 in
    ap (λ (b : Bool). b || other) before ∙ ap (λ (b : Bool). list_any is_malformed (map view items) || b) last
    ∙ sym (any_more (map view items) (view item)) ∙ ap (list_any is_malformed) (sym (map-append view items (item ∷ [])))
