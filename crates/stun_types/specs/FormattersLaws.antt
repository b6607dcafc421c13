-- Pieces of text that are written one after the other until one is refused.
use Rattle.std.proofs.Common.{◌≡◌, ℕ, false, List, [], ◌++◌, refl, sym, ap, ◌∙◌, subst, append_assoc, append-nil, ⊎_elim, Result, Ok, Err}
use Rattle.std.specs.Prelude.{OnErr, is_err}
use Rattle.std.proofs.lemmas.Bool.{cases_Bool, false≢true}
use Rattle.std.specs.Fmt.{IsPlainFormatter, HasWritten, WritesOnOk}
use Rattle.std.specs.declared.fmt.Error.{Error}
use Rattle.std.specs.declared.fmt.Formatter.{Formatter}
use Rattle.stun_text.specs.Writing.{has_written_nothing, has_written_both}
use Rattle.stun_types.specs.declared.show.until_refused.UntilRefused.{UntilRefused}
use Rattle.stun_types.specs.Formatters.{Refused, StopsAt, Took}

module _ {W : Type 0} (took : W → List ℕ → W → Type 0) where
  -- a text that is stopped in is followed by another, of which nothing is written
  stops_earlier : (f g h : Formatter W) (a b : List ℕ) → StopsAt took f a g → h ≡ g → StopsAt took f (a ++ b) h
  stops_earlier f g h a b stop same = subst (λ (x : Formatter W). StopsAt took f (a ++ b) x) (sym same) (record {
    front = stop.front;
    piece = stop.piece;
    rest = stop.rest ++ b;
    middle = stop.middle;
    whole = ap (λ (l : List ℕ). stop.front ++ l) (sym (append_assoc stop.piece stop.rest b)) ∙ sym (append_assoc stop.front (stop.piece ++ stop.rest) b)
        ∙ ap (λ (l : List ℕ). l ++ b) stop.whole;
    accepted = stop.accepted;
    refused = stop.refused;
  })

  -- a text is stopped in after another that is written
  stops_later : (f g h : Formatter W) (a b : List ℕ) → (IsPlainFormatter f → HasWritten took f a g) → StopsAt took g b h → StopsAt took f (a ++ b) h
  stops_later f g h a b first stop = record {
    front = a ++ stop.front;
    piece = stop.piece;
    rest = stop.rest;
    middle = stop.middle;
    whole = append_assoc a stop.front (stop.piece ++ stop.rest) ∙ ap (λ (l : List ℕ). a ++ l) stop.whole;
    accepted = has_written_both took f g stop.middle a stop.front first stop.accepted;
    refused = stop.refused;
  }

  pub took_nothing : (s : UntilRefused W) → Took took s [] s
  took_nothing s = record {
    same = refl;
    all = λ _ _. has_written_nothing took s.to.now;
    stops = λ no yes. absurd (false≢true (sym no ∙ yes));
    ended = λ yes. yes;
    kept = λ _. refl;
  }

  pub took_both : (s m t : UntilRefused W) (a b : List ℕ) → Took took s a m → Took took m b t → Took took s (a ++ b) t
  took_both s m t a b first second = record {
    same = second.same ∙ first.same;
    all = λ no none. ⊎_elim
        (λ stopped. absurd (false≢true (sym none ∙ second.ended stopped)))
        (λ going. has_written_both took s.to.now m.to.now t.to.now a b (first.all no going) (second.all going none))
        (cases_Bool m.refused);
    stops = λ no yes. ⊎_elim
        (λ stopped. stops_earlier s.to.now m.to.now t.to.now a b (first.stops no stopped) (second.kept stopped))
        (λ going. stops_later s.to.now m.to.now t.to.now a b (first.all no going) (second.stops going yes))
        (cases_Bool m.refused);
    ended = λ yes. second.ended (first.ended yes);
    kept = λ yes. second.kept (first.ended yes) ∙ first.kept yes;
  }

  -- a piece that a formatter which refused none yet takes or refuses
  pub took_piece : (s t : UntilRefused W) (piece : List ℕ) (r : Result (Unit {0}) Error) → s.refused ≡ false → t.to.ghost_name ≡ s.to.ghost_name
      → t.refused ≡ is_err r → WritesOnOk took s.to.now r piece t.to.now → OnErr r (Refused took s.to.now piece t.to.now) → Took took s piece t
  took_piece s t piece (Ok _) going same is writes refuses = record {
    same = same;
    all = λ _ _ plain. writes plain refl;
    stops = λ _ yes. absurd (false≢true (sym is ∙ yes));
    ended = λ yes. absurd (false≢true (sym going ∙ yes));
    kept = λ yes. absurd (false≢true (sym going ∙ yes));
  }
  took_piece s t piece (Err _) going same is writes refuses = record {
    same = same;
    all = λ _ no. absurd (false≢true (sym no ∙ is));
    stops = λ _ _. record {
      front = [];
      piece = piece;
      rest = [];
      middle = s.to.now;
      whole = append-nil piece;
      accepted = has_written_nothing took s.to.now;
      refused = refuses;
    };
    ended = λ yes. absurd (false≢true (sym going ∙ yes));
    kept = λ yes. absurd (false≢true (sym going ∙ yes));
  }
