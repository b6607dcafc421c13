-- The types of the attributes that an iterator over a message yields.
use Rattle.std.proofs.Common.{◌≡◌, Bool, List, [], ◌∷◌, map, refl, ap}
use Rattle.stun_grammar.specs.declared.attribute_type.AttributeType.{AttributeType}
use Rattle.stun_grammar.specs.Chains.{Shown}
use Rattle.stun_types.specs.Iterating.{borrowed}

abbrev pub view_type : Shown × Bool → AttributeType
view_type view = record { 0 = view.0.type }

pub views_types : (attributes : List Shown) → map view_type (borrowed attributes) ≡ map (λ (a : Shown). record { 0 = a.type }) attributes
views_types [] = refl
views_types (a ∷ attributes) = ap (λ (ts : List AttributeType). record { 0 = a.type } ∷ ts) (views_types attributes)
