-- Pieces of text that a sink took one after the other.
use Rattle.std.proofs.Common.{◌≡◌, ℕ, List, ◌++◌, Result, subst}
use Rattle.std.specs.Result.{OnOk}

module _ {S : Type 0} (wrote : S → List ℕ → S → Type 0) (joins : (s m t : S) (a b : List ℕ) → wrote s a m → wrote m b t → wrote s (a ++ b) t) where
  -- two pieces that were taken
  pub both : {s m t : S} {a b : List ℕ} → wrote s a m → wrote m b t → wrote s (a ++ b) t
  both first second = joins _ _ _ _ _ first second

  -- the text in another form
  pub spelled : {E : Type 0} (r : Result (Unit {0}) E) (s t : S) {a b : List ℕ} → a ≡ b → OnOk r (wrote s a t) → OnOk r (wrote s b t)
  spelled r s t is = subst (λ (l : List ℕ). OnOk r (wrote s l t)) is

  pub spelled_so : {s t : S} {a b : List ℕ} → a ≡ b → wrote s a t → wrote s b t
  spelled_so {s} {t} is = subst (λ (l : List ℕ). wrote s l t) is
