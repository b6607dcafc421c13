-- Text to a formatter that may refuse a piece of it.
use Rattle.std.specs.Prelude.{◌≡◌, ℕ, true, false, List, ◌++◌, Result, Ok, Err, IsErr, OnErr, refl}
use Rattle.std.specs.Fmt.{IsPlainFormatter, HasWritten, WritesOnOk}
use Rattle.std.specs.declared.fmt.Error.{Error}
use Rattle.std.specs.declared.fmt.Formatter.{Formatter}
use Rattle.stun_types.specs.declared.show.until_refused.UntilRefused.{UntilRefused}

-- a formatter refused a piece: a call of `write_str` failed, and took the formatter from f to g.
-- std ensures nothing of such a call, so neither does this. But no other file can unfold it, and a
-- proof has it only by `refused`, from what a call returned
pub Refused : {W : Type 0} (took : W → List ℕ → W → Type 0)
    (f : Formatter W) (piece : List ℕ) (g : Formatter W) → Type 0
Refused took f piece g = (r : Result (Unit {0}) Error) × IsErr r × WritesOnOk took f r piece g

pub refused : {W : Type 0} (took : W → List ℕ → W → Type 0)
    (f : Formatter W) (piece : List ℕ) (g : Formatter W) (r : Result (Unit {0}) Error)
    → WritesOnOk took f r piece g → OnErr r (Refused took f piece g)
unfolding Refused
refused took f piece g (Ok _) writes = tt
refused took f piece g (Err e) writes = (Err e, refl, writes)

-- a formatter took a front of a text, if it was plain, and then refused the next piece, by which it
-- became g
pub record StopsAt {W : Type 0} (took : W → List ℕ → W → Type 0)
    (f : Formatter W) (text : List ℕ) (g : Formatter W) : Type 0 where
  pub front : List ℕ
  pub piece : List ℕ
  pub rest : List ℕ
  pub middle : Formatter W
  pub whole : front ++ (piece ++ rest) ≡ text
  pub accepted : IsPlainFormatter f → HasWritten took f front middle
  pub refused : Refused took middle piece g

-- what a sink does with a text until a piece is refused: it takes all of it, or stops in it; after
-- a refusal it takes nothing
pub record Took {W : Type 0} (took : W → List ℕ → W → Type 0)
    (s : UntilRefused W) (text : List ℕ) (t : UntilRefused W) : Type 0 where
  pub same : t.to.ghost_name ≡ s.to.ghost_name
  pub all : s.refused ≡ false → t.refused ≡ false → IsPlainFormatter s.to.now
      → HasWritten took s.to.now text t.to.now
  pub stops : s.refused ≡ false → t.refused ≡ true → StopsAt took s.to.now text t.to.now
  pub ended : s.refused ≡ true → t.refused ≡ true
  pub kept : s.refused ≡ true → t.to.now ≡ s.to.now
