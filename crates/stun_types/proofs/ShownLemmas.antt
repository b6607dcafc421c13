-- A case of what is shown.
use Rattle.std.proofs.Common.{◌≡◌, Option, Some}
use Rattle.std.specs.Prelude.{MatchOption}

pub at_some : {A : Type 0} (P : Type 0) (Q : A → Type 0) (o : Option A) (x : A) → o ≡ Some x → Q x → MatchOption o P Q
at_some P Q o x is q = rw is q
