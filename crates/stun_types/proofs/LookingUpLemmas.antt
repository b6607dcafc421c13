-- Lemmas on looking up an attribute by its type.
use Rattle.std.proofs.Common.{◌≡◌, ℕ, Bool, true, false, cond, List, [], ◌∷◌, refl, ap, ◌∙◌}
use Rattle.std.specs.Prelude.{◌==◌, Option, Some, None, filter, slice_get}
use Rattle.std.specs.Option.{option_map}
use Rattle.std.proofs.lemmas.Option.{slice_get-map}
use Rattle.stun_grammar.specs.Chains.{Shown}
use Rattle.stun_attributes.specs.declared.wire.raw.RawAttribute.{RawAttribute}
use Rattle.stun_types.specs.Iterating.{item_view, borrowed}
use Rattle.stun_types.specs.LookingUp.{IsFound}

-- the attributes of a type among those that are borrowed are those of that type, borrowed
filter-borrowed : (type : ℕ) (attributes : List Shown) → filter (λ (x : Shown × Bool). x.0.type == type) (borrowed attributes) ≡ borrowed (filter (λ (a : Shown). a.type == type) attributes)
filter-borrowed type [] = refl
filter-borrowed type (a ∷ attributes) =
    elim (a.type == type) as (λ b. cond b ((a, true) ∷ filter (λ (x : Shown × Bool). x.0.type == type) (borrowed attributes)) (filter (λ (x : Shown × Bool). x.0.type == type) (borrowed attributes)) ≡ borrowed (cond b (a ∷ filter (λ (a : Shown). a.type == type) attributes) (filter (λ (a : Shown). a.type == type) attributes))) [
      | true ↦ ap (λ (xs : List (Shown × Bool)). (a, true) ∷ xs) (filter-borrowed type attributes)
      | false ↦ filter-borrowed type attributes
    ]

-- so the one at place n is that of the attributes, borrowed
pub found_borrowed : (type n : ℕ) (attributes : List Shown) → slice_get (filter (λ (x : Shown × Bool). x.0.type == type) (borrowed attributes)) n ≡ option_map (λ (a : Shown). (a, true)) (slice_get (filter (λ (a : Shown). a.type == type) attributes) n)
found_borrowed type n attributes =
    ap (λ (xs : List (Shown × Bool)). slice_get xs n) (filter-borrowed type attributes) ∙ slice_get-map (λ (a : Shown). (a, true)) (filter (λ (a : Shown). a.type == type) attributes) n

-- an item whose view is that of an attribute, borrowed, is what is found
pub found_item : (attribute : Option Shown) (item : Option (ℕ × RawAttribute)) → option_map item_view item ≡ option_map (λ (a : Shown). (a, true)) attribute → IsFound attribute item
found_item None None e = refl
found_item None (Some item) e = absurd cc
found_item (Some a) None e = absurd cc
found_item (Some a) (Some item) e =
    let view : item_view item ≡ (a, true) = cc in (
      ap (λ (x : Shown × Bool). x.0.offset) view,
      record {
        raw_is = record { type_is = ap (λ (x : Shown × Bool). x.0.type) view; value_is = ap (λ (x : Shown × Bool). x.0.value) view };
        borrowed = ap (λ (x : Shown × Bool). x.1) view;
      },
    )
