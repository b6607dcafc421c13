-- The orders in which parsing scans attributes: ordinary ones, then different ending ones in any
-- order.
use Rattle.std.specs.Prelude.{◌≡◌, ℕ, Bool, true, false, not, ◌&&◌, List, [], ◌∷◌, ◌++◌, IsTrue, ◌==◌}
use Rattle.std.specs.List.{list_all, list_any, AllByRecursion}
use Rattle.stun_grammar.specs.AttributeTypes.{is_ending}
use Rattle.stun_grammar.specs.ShownOrder.{endings}

-- whether a type is among these
abbrev pub has : ℕ → List ℕ → Bool
has type = list_any (λ x. x == type)

-- whether no number occurs twice
unfoldable pub distinct : List ℕ → Bool
distinct [] = true
distinct (x ∷ xs) = not (has x xs) && distinct xs

-- any number of ordinary types, then ending types, no two of them equal
pub record IsInAnyOrder (types : List ℕ) : Type 0 where
  pub ordinary : List ℕ
  pub endings : List ℕ
  pub none_ends : AllByRecursion (λ type. is_ending type ≡ false) ordinary
  pub all_end : AllByRecursion (λ type. is_ending type ≡ true) endings
  pub differ : IsTrue (distinct endings)
  pub whole : types ≡ ordinary ++ endings

-- the test of IsInAnyOrder
unfoldable pub in_any_order : List ℕ → Bool
in_any_order types = list_all is_ending (endings types) && distinct (endings types)
