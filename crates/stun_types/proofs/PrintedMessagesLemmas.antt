-- The texts of items, one after the other.
use Rattle.std.proofs.Common.{◌≡◌, ℕ, Bool, true, List, [], ◌∷◌, ◌++◌, length, map, refl, sym, ap, ◌∙◌}
use Rattle.std.specs.Prelude.{codes}
use Rattle.std.specs.List.{flat_map}
use Rattle.stun_text.specs.Lists.{with_commas, comma_before}
use Rattle.stun_grammar.specs.Chains.{Shown}
use Rattle.stun_base.specs.Data.{is_borrowed}
use Rattle.stun_attributes.specs.Raw.{raw_type, raw_data, raw_value}
use Rattle.stun_attributes.specs.declared.wire.raw.RawAttribute.{RawAttribute}
use Rattle.stun_types.specs.Iterating.{item_view, borrowed}
use Rattle.stun_types.specs.PrintedMessages.{attributes_text}

-- the text of an item that was yielded
abbrev pub item_text : (ℕ → List ℕ → Bool → List ℕ) → ℕ × RawAttribute → List ℕ
item_text text item = text (raw_type item.1) (raw_value item.1) (is_borrowed (raw_data item.1))

-- after an item come a comma and a space
pub comma_behind : {X : Type 0} (xs : List X) (x : X) → codes ", " ≡ comma_before (length (xs ++ x ∷ []))
comma_behind [] x = refl
comma_behind (y ∷ xs) x = refl

module _ {X Y : Type 0} (text : X → List ℕ) (view : Y → X) where
  others_map : (ys : List Y) → flat_map (λ y. codes ", " ++ text (view y)) ys ≡ flat_map (λ x. codes ", " ++ text x) (map view ys)
  others_map [] = refl
  others_map (y ∷ ys) = rw (others_map ys) refl

  commas_map : (ys : List Y) → with_commas (λ y. text (view y)) ys ≡ with_commas text (map view ys)
  commas_map [] = refl
  commas_map (y ∷ ys) = ap (λ (l : List ℕ). text (view y) ++ l) (others_map ys)

-- an attribute that is shown, and whether its value is borrowed
abbrev viewed_text : (ℕ → List ℕ → Bool → List ℕ) → Shown × Bool → List ℕ
viewed_text text view = text view.0.type view.0.value view.1

-- the items of these attributes print as the attributes do
pub items_text : (text : ℕ → List ℕ → Bool → List ℕ) (items : List (ℕ × RawAttribute)) (attributes : List Shown) → map item_view items ≡ borrowed attributes
    → with_commas (item_text text) items ≡ attributes_text text attributes
items_text text items attributes e =
    commas_map (viewed_text text) item_view items
    ∙ ap (with_commas (viewed_text text)) e
    ∙ sym (commas_map (viewed_text text) (λ (a : Shown). (a, true)) attributes)
