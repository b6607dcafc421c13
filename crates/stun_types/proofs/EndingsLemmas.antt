-- The ending types that were met, with one more attribute.
use Rattle.std.proofs.Common.{◌≡◌, ℕ, Bool, true, false, not, ◌||◌, eqb, List, [], ◌∷◌, ◌++◌, refl, sym, ap, ◌∙◌}
use Rattle.std.proofs.lemmas.List.Folds.{list_any-append}
use Rattle.std.proofs.lemmas.Bool.{cond-true, cond-false, ne_eqb}
use Rattle.stun_grammar.specs.AttributeTypes.{is_ending}
use Rattle.stun_grammar.specs.ScannedOrder.{in_any_order, has}
use Rattle.stun_grammar.proofs.ScannedOrderLemmas.{any_order-push, ends_empty}

has_push : (k type : ℕ) (types : List ℕ) → has k (types ++ type ∷ []) ≡ (has k types || (eqb type k || false))
has_push k type types = list_any-append (λ x. eqb x k) types (type ∷ [])

or_false : (p : Bool) → (p || false) ≡ p
or_false true = refl
or_false false = refl

or_true : (p : Bool) → (p || true) ≡ true
or_true true = refl
or_true false = refl

pub has_same : (k type : ℕ) (types : List ℕ) (seen : Bool) → seen ≡ has k types → (type ≡ k → ⊥) → seen ≡ has k (types ++ type ∷ [])
has_same k type types seen e differs = e ∙ sym (has_push k type types ∙ ap (λ (t : Bool). has k types || (t || false)) (ne_eqb type k differs) ∙ or_false (has k types))

pub has_now : (k type : ℕ) (types : List ℕ) → type ≡ k → eqb k k ≡ true → true ≡ has k (types ++ type ∷ [])
has_now k type types is same = sym (has_push k type types ∙ ap (λ (t : Bool). has k types || (t || false)) (ap (λ (x : ℕ). eqb x k) is ∙ same) ∙ or_true (has k types))

pub ending_admitted : (type : ℕ) (types : List ℕ) (seen : Bool) → in_any_order types ≡ true → is_ending type ≡ true → seen ≡ has type types → not seen ≡ in_any_order (types ++ type ∷ [])
ending_admitted type types seen fits ends e = ap not e ∙ sym (any_order-push types type fits ∙ cond-true (is_ending type) _ _ ends)

pub ordinary_admitted : (type : ℕ) (types : List ℕ) → in_any_order types ≡ true → is_ending type ≡ false → not (has 0x0008 types || (has 0x001C types || has 0x8028 types)) ≡ in_any_order (types ++ type ∷ [])
ordinary_admitted type types fits ends = sym (any_order-push types type fits ∙ cond-false (is_ending type) _ _ ends ∙ ends_empty types)
