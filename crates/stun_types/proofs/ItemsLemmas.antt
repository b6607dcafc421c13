-- The items that an iterator has yielded, as attributes that are shown.
use Rattle.std.proofs.Common.{◌≡◌, ℕ, Bool, List, [], ◌∷◌, map, refl, ap, ◌∙◌}
use Rattle.stun_grammar.specs.Chains.{Shown}
use Rattle.stun_attributes.specs.declared.wire.raw.RawAttribute.{RawAttribute}
use Rattle.stun_types.specs.Iterating.{item_view, borrowed}

-- if the views of items are these attributes, each borrowed, their first parts are these
-- attributes
pub shown_items : (items : List (ℕ × RawAttribute)) (attributes : List Shown) → map item_view items ≡ borrowed attributes → map (λ (item : ℕ × RawAttribute). (item_view item).0) items ≡ attributes
shown_items items attributes e = first_parts items ∙ ap (map (λ (x : Shown × Bool). x.0)) e ∙ unborrowed attributes
  where
    first_parts : (items : List (ℕ × RawAttribute)) → map (λ (item : ℕ × RawAttribute). (item_view item).0) items ≡ map (λ (x : Shown × Bool). x.0) (map item_view items)
    first_parts [] = refl
    first_parts (item ∷ items) = ap (λ (xs : List Shown). (item_view item).0 ∷ xs) (first_parts items)

    unborrowed : (attributes : List Shown) → map (λ (x : Shown × Bool). x.0) (borrowed attributes) ≡ attributes
    unborrowed [] = refl
    unborrowed (a ∷ attributes) = ap (λ (xs : List Shown). a ∷ xs) (unborrowed attributes)
