-- Attributes that are added one after the other, one for each member of a list.
use Rattle.std.proofs.Common.{◌≡◌, ℕ, ◌+◌, ◌<◌, ◌≤◌, List, [], ◌∷◌, ◌++◌, length, get_or, take, drop, map, Result, Ok, Err, sym, ap, ◌∙◌, subst}
use Rattle.std.specs.Result.{IsErr, IsErrAnd}
use Rattle.std.proofs.lemmas.List.{map-append, map_more, take_all, take-append-drop}
use Rattle.stun_grammar.specs.declared.error.StunWriteError.{StunWriteError}
use Rattle.stun_grammar.specs.Attributes.{Attribute}
use Rattle.stun_types.specs.Writers.{Writer}
use Rattle.stun_authentication.specs.Writing.{Lengthens}
use Rattle.stun_authentication.proofs.AddedLemmas.{in_turn, failed}

module _ {T : Type 0} (f : T → Attribute) (xs : List T) where
  -- those of the first i members
  abbrev before : ℕ → List Attribute
  before i = map f (take i xs)

  both : (old mid new : Writer) (i : ℕ) (d : T) (result : Result (Unit {0}) StunWriteError) → i < length xs → Lengthens (Ok tt) old mid (before i) → Lengthens result mid new (f (get_or xs i d) ∷ [])
      → Lengthens result old new (before (i + 1))
  both old mid new i d result within so_far one =
      subst (λ (more : List Attribute). Lengthens result old new more) (sym (map_more f xs i d within)) (in_turn tt result old mid new (before i) (f (get_or xs i d) ∷ []) so_far one)

  -- one more is added
  pub one_more : (old mid new : Writer) (i : ℕ) (d : T) → i < length xs → Lengthens (Ok tt) old mid (before i) → Lengthens (Ok tt) mid new (f (get_or xs i d) ∷ [])
      → Lengthens (Ok tt) old new (before (i + 1))
  one_more old mid new i d within so_far one = both old mid new i d (Ok tt) within so_far one

  -- one more can't be added
  pub one_fails : (old mid new : Writer) (i : ℕ) (d : T) (e : StunWriteError) (result : Result (Unit {0}) StunWriteError) → i < length xs → Lengthens (Ok tt) old mid (before i) → Lengthens (Err e) mid new (f (get_or xs i d) ∷ [])
      → IsErr result × IsErrAnd result (λ made. made ≡ e) → Lengthens result old new (map f xs)
  one_fails old mid new i d e result within so_far one reported =
      let whole : before (i + 1) ++ map f (drop (i + 1) xs) ≡ map f xs = sym (map-append f (take (i + 1) xs) (drop (i + 1) xs)) ∙ ap (map f) (take-append-drop (i + 1) xs) in
      subst (λ (more : List Attribute). Lengthens result old new more) whole (failed result old new e (before (i + 1)) (map f (drop (i + 1) xs)) (both old mid new i d (Err e) within so_far one) reported)

  -- all are added
  pub all_added : (old new : Writer) (i : ℕ) → length xs ≤ i → Lengthens (Ok tt) old new (before i) → Lengthens (Ok tt) old new (map f xs)
  all_added old new i within so_far = subst (λ (more : List T). Lengthens (Ok tt) old new (map f more)) (take_all i xs within) so_far
