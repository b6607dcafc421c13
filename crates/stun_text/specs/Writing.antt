-- Pieces of text that are written one after the other.
use Rattle.std.specs.Prelude.{ℕ, List, [], ◌++◌, refl}
use Rattle.std.specs.Fmt.{IsPlainFormatter, HasWritten}
use Rattle.std.specs.declared.fmt.Formatter.{Formatter}
use Rattle.std.proofs.lemmas.Grind.{put_two}

-- ---- To a formatter

pub has_written_nothing : {W : Type 0} (took : W → List ℕ → W → Type 0) (f : Formatter W)
    → IsPlainFormatter f → HasWritten took f [] f
has_written_nothing took f plain =
    record { wrote = record { parts = []; calls = refl; whole = refl }; plain = plain }

pub has_written_both : {W : Type 0} (took : W → List ℕ → W → Type 0) (f g h : Formatter W)
    (a b : List ℕ) → (IsPlainFormatter f → HasWritten took f a g)
    → (IsPlainFormatter g → HasWritten took g b h) → IsPlainFormatter f
    → HasWritten took f (a ++ b) h
has_written_both took f g h a b first second plain =
    let one = first plain in
    put_two took f g h a b (a ++ b) one (second one.plain) refl
