-- Texts that are escaped one after the other are escaped as one.
use Rattle.std.specs.Prelude.{ℕ, List, [], ◌++◌}
use Rattle.std.proofs.Common.{subst, sym, refl, ◌∙◌}
use Rattle.std.proofs.lemmas.Grind.{flat_map-append}
use Rattle.stun_text.specs.Slices.{SliceWrote}
use Rattle.stun_text.specs.SlicesLaws.{slice_nothing, slice_joins}
use Rattle.stun_plain_text.specs.declared.escaping.Escaper.{Escaper}
use Rattle.stun_plain_text.specs.Escaping.{escaped, escaped_byte, EscapedWrote}

pub escaped_nothing : (s : Escaper) → EscapedWrote s [] s
escaped_nothing s = record { wrote = slice_nothing s.slice.now; same = refl }

pub escaped_joins : (s m t : Escaper) (a b : List ℕ) → EscapedWrote s a m → EscapedWrote m b t → EscapedWrote s (a ++ b) t
escaped_joins s m t a b first second = record {
  wrote = subst (λ (l : List ℕ). SliceWrote s.slice.now l t.slice.now) (sym (flat_map-append escaped_byte a b))
      (slice_joins s.slice.now m.slice.now t.slice.now (escaped a) (escaped b) first.wrote second.wrote);
  same = second.same ∙ first.same;
}
