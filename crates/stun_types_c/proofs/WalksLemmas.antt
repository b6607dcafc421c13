-- A walk over the attributes that a message shows, step by step.
use Rattle.std.proofs.Common.{◌≡◌, ℕ, ◌+◌, List, [], ◌∷◌, ◌++◌, length, map, set, refl, sym, ap, ◌∙◌, append_assoc, arith}
use Rattle.std.proofs.lemmas.List.{map-append, length-append, length-map}
use Rattle.stun_grammar.specs.Chains.{Shown}
use Rattle.stun_types_c.specs.declared.attribute.ShownAttribute.{ShownAttribute}
use Rattle.stun_types_c.specs.Attributes.{in_c, laid_over}

-- ---- All attributes

-- one more is laid over, if there is room for it
laid_more : (found start : List ShownAttribute) (x : ShownAttribute) → set (laid_over found start) (length found) x ≡ laid_over (found ++ x ∷ []) start
laid_more [] [] x = refl
laid_more [] (s ∷ []) x = refl
laid_more [] (s ∷ t ∷ start) x = refl
laid_more (f ∷ found) [] x = refl
laid_more (f ∷ found) (s ∷ start) x = ap (λ (l : List ShownAttribute). f ∷ l) (laid_more found start x)

-- those of a list up to what is left of it are counted, and laid over
pub record Listed (all left : List Shown) (count : ℕ) (places start : List ShownAttribute) : Type 0 where
  pub before : List Shown
  pub split : all ≡ before ++ left
  pub counted : count ≡ length before
  pub laid : places ≡ laid_over (map in_c before) start

pub one_listed : (all left next : List Shown) (a : Shown) (count more : ℕ) (places new start : List ShownAttribute) (x : ShownAttribute) → Listed all left count places start → left ≡ a ∷ next → x ≡ in_c a
    → more ≡ count + 1 → new ≡ set places count x → Listed all next more new start
one_listed all left next a count more places new start x so left-is x-is more-is new-is = record {
  before = so.before ++ a ∷ [];
  split = so.split ∙ ap (λ (l : List Shown). so.before ++ l) left-is ∙ sym (append_assoc so.before (a ∷ []) next);
  counted = omega (arith, more-is, so.counted, length-append so.before (a ∷ []));
  laid =
      let found = map in_c so.before in
      let size : count ≡ length found = so.counted ∙ sym (length-map so.before in_c) in
      new-is ∙ (λ j. set (so.laid j) (size j) (x-is j)) ∙ laid_more found start (in_c a)
      ∙ ap (λ (l : List ShownAttribute). laid_over l start) (sym (map-append in_c so.before (a ∷ [])));
}
