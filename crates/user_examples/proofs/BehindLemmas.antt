-- An attribute after a message in a slice.
use Rattle.std.proofs.Common.{◌≡◌, ℕ, ◌-◌, ◌^◌, ◌<◌, ◌⊎◌, Bool, true, false, List, ◌++◌, length, take, Option, None, Some, Result, Ok, Err, refl, sym, ap, subst, ◌∙◌, inl, inr, arith}
use Rattle.std.specs.Prelude.{MatchOption, nat_lt, if◌then◌else◌}
use Rattle.std.proofs.lemmas.List.{take_at}
use Rattle.stun_grammar.specs.declared.error.StunWriteError.{StunWriteError}
use Rattle.stun_grammar.specs.Attributes.{attribute_length}
use Rattle.stun_grammar.specs.declared.error.StunParseError.TheVariants.{Truncated}
use Rattle.stun_grammar.specs.Numbers.{IsBytes}
use Rattle.stun_grammar.specs.AttributeTypes.{IsOrdinary}
use Rattle.stun_grammar.specs.Parsing.{parse_fault}
use Rattle.stun_grammar.specs.Steps.{Step, add, value_length, appended_by, IsEncodable, IsOrdinaryStep}
use Rattle.stun_grammar.specs.Adding.{appended, add_refusal, IsAddAnswer}
use Rattle.stun_grammar.proofs.AddingRefusedLemmas.{no_refusal}
use Rattle.stun_grammar.proofs.NumbersLemmas.{IsBytes-take}
use Rattle.stun_types.specs.Resuming.{message_types, whole_fault, resume_fault, after_step, IsAcceptedIn}

-- in a slice an add is refused by its rules alone: what has room needs no memory
pub refused_by_rules : (step : Step) (types before : List ℕ) (len written most : ℕ) (greatest : Option ℕ) (ready kinds n : ℕ) (e : StunWriteError)
    → before ≡ types → written ≡ len → greatest ≡ Some most → ready ≡ most - len → kinds ≡ 16
    → IsAddAnswer (add_refusal step before written greatest) (ready < attribute_length (value_length step) ⊎ kinds < 1) (Err e)
    → MatchOption (add_refusal step types len (Some most)) (◌≡◌ {A = Result ℕ StunWriteError} (Err e) (Ok n)) (λ x. ◌≡◌ {A = Result ℕ StunWriteError} (Err e) (Err x))
refused_by_rules step types before len written most greatest ready kinds n e same-types same-length same-bound room sixteen answer =
    go (add_refusal step types len (Some most)) no_memory (rw (same-types, same-length, same-bound) at answer)
  where
    no_memory : add_refusal step types len (Some most) ≡ None → ready < attribute_length (value_length step) ⊎ kinds < 1 → ⊥
    no_memory none (inl few) = absurd (omega (arith, few, room, (no_refusal step types len (Some most) none).room))
    no_memory none (inr few) = absurd (omega (arith, few, sixteen))

    go : (o : Option StunWriteError) → (o ≡ None → ready < attribute_length (value_length step) ⊎ kinds < 1 → ⊥) → IsAddAnswer o (ready < attribute_length (value_length step) ⊎ kinds < 1) (Err e)
        → MatchOption o (◌≡◌ {A = Result ℕ StunWriteError} (Err e) (Ok n)) (λ x. ◌≡◌ {A = Result ℕ StunWriteError} (Err e) (Err x))
    go None not a = absurd (not refl a.1)
    go (Some x) not a = some_is a
      where
        some_is : ◌≡◌ {A = Result (Unit {0}) StunWriteError} (Err e) (Err x) → ◌≡◌ {A = Result ℕ StunWriteError} (Err e) (Err x)
        some_is same = cc

-- ---- What was added to parses

-- the law of one step on a resumed message
abbrev StepParses : Type 0
StepParses =
    (greatest : Option ℕ) (message : List ℕ) (step : Step) → IsBytes message → whole_fault message ≡ None → IsEncodable step → IsOrdinaryStep step → IsAcceptedIn greatest message step → parse_fault (after_step message step) ≡ None

after_add : (message : List ℕ) (type : ℕ) (value : List ℕ) → after_step message (add type value) ≡ appended message type value
unfolding appended_by
after_add message type value = refl

resumed_whole : (slice : List ℕ) (count : ℕ) → resume_fault slice count ≡ None → whole_fault (take count slice) ≡ None
unfolding resume_fault
resumed_whole slice count e = go (nat_lt (length slice) count) e
  where
    go : (few : Bool) → (if few then Some (Truncated count (length slice)) else whole_fault (take count slice)) ≡ None → whole_fault (take count slice) ≡ None
    go true e = absurd (cc e)
    go false e = e

pub not_refused : (refusal : Option StunWriteError) (done : Unit {0}) → IsAddAnswer refusal (Unit {0}) (Ok done) → refusal ≡ None
not_refused None done answer = refl
not_refused (Some e) done answer = absurd (cc answer)

pub added_parses : StepParses → (slice before bytes rest all value types : List ℕ) (count n type : ℕ) (greatest : Option ℕ) → IsBytes slice → resume_fault slice count ≡ None → IsOrdinary type → type < 2 ^ 16 → length value < 2 ^ 16
    → before ≡ take count slice → types ≡ message_types (take count slice) → add_refusal (add type value) types (length before) greatest ≡ None → bytes ≡ appended before type value → all ≡ bytes ++ rest → n ≡ length bytes
    → parse_fault (take n all) ≡ None
added_parses law slice before bytes rest all value types count n type greatest are there plain t v before_is types_are accepted added all_is n_is =
    let message = take count slice in
    let ok : IsAcceptedIn greatest message (add type value) =
    subst (λ (ts : List ℕ). add_refusal (add type value) ts (length message) greatest ≡ None) types_are
    (subst (λ (b : List ℕ). add_refusal (add type value) types (length b) greatest ≡ None) before_is accepted) in
    let taken : take n all ≡ after_step message (add type value) =
    ap (take n) all_is ∙ take_at bytes rest n (sym n_is) ∙ added ∙ ap (λ (b : List ℕ). appended b type value) before_is ∙ sym (after_add message type value) in
    ap parse_fault taken ∙ law greatest message (add type value) (IsBytes-take count slice are) (resumed_whole slice count there) (t, v) plain ok
