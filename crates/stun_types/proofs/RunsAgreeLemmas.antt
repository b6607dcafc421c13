-- Runs of the same steps to two writers.
use Rattle.std.proofs.Common.{◌≡◌, ℕ, List, [], ◌∷◌, length, map, Result, Ok, Err, refl, sym, ap, ◌∙◌, arith}
use Rattle.std.specs.Prelude.{IsOk}
use Rattle.std.specs.List.{AllByRecursion}
use Rattle.stun_grammar.specs.declared.error.StunWriteError.{StunWriteError}
use Rattle.stun_grammar.specs.Attributes.{types}
use Rattle.stun_grammar.specs.Steps.{Step as Plain}
use Rattle.stun_grammar.specs.Sending.{body}
use Rattle.stun_grammar.specs.Writing.{message_encoding}
use Rattle.stun_types.specs.declared.writing.steps.Step.{Step}
use Rattle.stun_types.specs.Writers.{Writer}
use Rattle.stun_types.specs.Runs.{plain, accepted, Writes}

module _ {O : Type 0} (T : O → ℕ) (V : O → List ℕ) where
  -- if each is accepted, all are
  accepted_all : (steps : List (Step O)) (verdicts : List (Result Unit StunWriteError)) → length verdicts ≡ length steps → AllByRecursion IsOk verdicts → accepted T V steps verdicts ≡ map (plain T V) steps
  accepted_all [] verdicts e all = refl
  accepted_all (x ∷ steps) [] e all = absurd (omega (arith, e))
  accepted_all (x ∷ steps) (Ok u ∷ verdicts) e all = ap (λ (more : List Plain). plain T V x ∷ more) (accepted_all steps verdicts (omega (arith, e)) all.1)
  accepted_all (x ∷ steps) (Err r ∷ verdicts) e all = absurd (cc all.0)

  module _ (type id : ℕ) (steps : List (Step O)) (verdicts others : List (Result Unit StunWriteError)) (old new empty full : Writer)
      (one : Writes T V old new type id steps verdicts) (two : Writes T V empty full type id steps others) where
    pub agree : accepted T V steps verdicts ≡ accepted T V steps others → (new.bytes ≡ full.bytes) × (new.types ≡ full.types)
    agree same = (
      one.bytes ∙ ap (λ (s : List Plain). message_encoding type id (body (record { type = type; id = id; steps = s }))) same ∙ sym two.bytes,
      one.types ∙ ap (λ (s : List Plain). types (body (record { type = type; id = id; steps = s }))) same ∙ sym two.types,
    )

    pub agree_all : length verdicts ≡ length steps → length others ≡ length steps → AllByRecursion IsOk verdicts → AllByRecursion IsOk others → (new.bytes ≡ full.bytes) × (new.types ≡ full.types)
    agree_all first second all each = agree (accepted_all steps verdicts first all ∙ sym (accepted_all steps others second each))
