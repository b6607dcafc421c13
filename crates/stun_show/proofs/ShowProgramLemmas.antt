-- The arguments that are left.
use Rattle.std.proofs.Common.{◌≡◌, List, [], ◌∷◌, length, refl, sym, ◌∙◌}
use Rattle.std.specs.Vec.Iter.{into_iter_items, into_iter_len}
use Rattle.std.specs.declared.vec.IntoIter.{IntoIter}

-- if none is counted, none is left
pub none_left : {X Z : Type 0} (it : IntoIter X Z) → into_iter_len it ≡ 0 → into_iter_items it ≡ []
none_left it e = no_items (into_iter_items it) (sym it.rest.ok.0 ∙ e)
  where
    no_items : {X : Type 0} (xs : List X) → length xs ≡ 0 → xs ≡ []
    no_items [] e = refl
    no_items (x ∷ xs) e = absurd cc
