-- A message with one attribute, in a slice.
use Rattle.std.proofs.Common.{◌≡◌, ℕ, ◌+◌, ◌^◌, ◌<◌, ◌≤◌, ◌⊎◌, List, [], length, Option, None, Some, Result, Ok, Err, refl, ap, subst, ◌∙◌, arith, inl, inr}
use Rattle.std.specs.Prelude.{IsOk, OnOk, OnErr}
use Rattle.std.proofs.lemmas.Bool.{le-ltb, lt-ltb}
use Rattle.std.proofs.Math.Seq.{drop-drop}
use Rattle.stun_grammar.specs.declared.error.StunWriteError.{StunWriteError}
use Rattle.stun_grammar.specs.declared.error.StunWriteError.TheVariants.{TooSmall}
use Rattle.stun_grammar.specs.Steps.{add}
use Rattle.stun_grammar.specs.Attributes.{attribute_length}
use Rattle.stun_grammar.specs.Adding.{appended, room_refusal, add_refusal, IsAddAnswer}
use Rattle.stun_grammar.proofs.AddingLemmas.{message_more}
use Rattle.stun_types.specs.Writers.{Writer, IsBegun, IsUnchanged, Gains}
use Rattle.user_examples.specs.InSlice.{WritesSoftware}
use Rattle.user_examples.proofs.AddsLemmas.{nothing_before}
use Rattle.stun_grammar.specs.Writing.{greatest_length}
use Rattle.stun_values.specs.TextValues.{text_max}

fits_in : (most longer : ℕ) → longer ≤ most → longer ≤ greatest_length → room_refusal 20 (Some most) longer ≡ None
unfolding room_refusal
fits_in most longer fits short = rw (le-ltb most longer fits, le-ltb greatest_length longer short) refl

too_small : (most longer : ℕ) → most < longer → room_refusal 20 (Some most) longer ≡ Some (TooSmall longer most)
unfolding room_refusal
too_small most longer short = rw (lt-ltb most longer short) refl

-- the first attribute is refused only if there is no room for it; the header has used up twenty
-- bytes of the ready room
pub first_answer : (type : ℕ) (value types : List ℕ) (len : ℕ) (before after : Option ℕ) (bytes bytes-left kinds kinds-left : ℕ) (r : Result (Unit {0}) StunWriteError)
    → types ≡ [] → len ≡ 20 → after ≡ before → bytes ≤ bytes-left + 20 → kinds ≤ kinds-left
    → IsAddAnswer (add_refusal (add type value) types len after) (bytes-left < attribute_length (length value) ⊎ kinds-left < 1) r
    → IsAddAnswer (room_refusal 20 before (20 + attribute_length (length value))) (bytes < 20 + attribute_length (length value) ⊎ kinds < 1) r
first_answer type value types len before after bytes bytes-left kinds kinds-left r none twenty same ready ready-types answer =
    go (room_refusal 20 before (20 + attribute_length (length value))) r (subst (λ (o : Option StunWriteError). IsAddAnswer o (bytes-left < attribute_length (length value) ⊎ kinds-left < 1) r) refusal answer)
  where
    refusal : add_refusal (add type value) types len after ≡ room_refusal 20 before (20 + attribute_length (length value))
    refusal = rw (none, twenty, same, nothing_before type value) refl

    few : bytes-left < attribute_length (length value) ⊎ kinds-left < 1 → bytes < 20 + attribute_length (length value) ⊎ kinds < 1
    few (inl f) = inl (omega (arith, f, ready))
    few (inr f) = inr (omega (arith, f, ready-types))

    go : (o : Option StunWriteError) (r : Result (Unit {0}) StunWriteError) → IsAddAnswer o (bytes-left < attribute_length (length value) ⊎ kinds-left < 1) r → IsAddAnswer o (bytes < 20 + attribute_length (length value) ⊎ kinds < 1) r
    go None (Ok u) a = a
    go None (Err e) a = (a.0, few a.1)
    go (Some x) r a = a

-- the header is written, and then the attribute or nothing
pub writes_software : (r : Result (Unit {0}) StunWriteError) (old mid new : Writer) (id : ℕ) (text : List ℕ) → IsBegun old mid 0x0001 id → length text < 2 ^ 16
    → OnOk r (Gains mid new 0x8022 text) → OnErr r (IsUnchanged mid new) → new.slice_name ≡ mid.slice_name → WritesSoftware r old new id text
writes_software (Ok u) old mid new id text begun short gains same place = record {
  encoding = gains.bytes ∙ ap (λ (b : List ℕ). appended b 0x8022 text) begun.bytes ∙ message_more 0x0001 id [] 0x8022 text (omega arith) short;
  size = gains.size ∙ ap (λ (n : ℕ). n + attribute_length (length text)) begun.size;
  rest = rw (gains.rest, begun.rest) (drop-drop (attribute_length (length text)) 20 old.rest);
  header_alone = tt;
  rest_err = tt;
  slice_name = place ∙ begun.spends.slice_name;
}
writes_software (Err e) old mid new id text begun short gains same place = record {
  encoding = tt;
  size = tt;
  rest = tt;
  header_alone = same.bytes ∙ begun.bytes;
  rest_err = same.rest ∙ begun.rest;
  slice_name = place ∙ begun.spends.slice_name;
}

-- if the attribute fits, it is written
pub surely_written : (most n kinds : ℕ) (r : Result (Unit {0}) StunWriteError) → n ≤ text_max → 20 + attribute_length n ≤ most → 1 ≤ kinds
    → IsAddAnswer (room_refusal 20 (Some most) (20 + attribute_length n)) (most < 20 + attribute_length n ⊎ kinds < 1) r → IsOk r
surely_written most n kinds r short fits one answer =
    go r (subst (λ (o : Option StunWriteError). IsAddAnswer o (most < 20 + attribute_length n ⊎ kinds < 1) r) enough answer)
  where
    enough : room_refusal 20 (Some most) (20 + attribute_length n) ≡ None
    enough = fits_in most (20 + attribute_length n) fits (omega (arith, short))

    not : most < 20 + attribute_length n ⊎ kinds < 1 → ⊥
    not (inl f) = absurd (omega (arith, f, fits))
    not (inr f) = absurd (omega (arith, f, one))

    go : (r : Result (Unit {0}) StunWriteError) → IsAddAnswer None (most < 20 + attribute_length n ⊎ kinds < 1) r → IsOk r
    go (Ok u) a = refl
    go (Err e) a = absurd (not a.1)

-- if it doesn't fit, adding it is refused with `TooSmall`
pub surely_refused : (most n kinds : ℕ) (r : Result (Unit {0}) StunWriteError) → most < 20 + attribute_length n
    → IsAddAnswer (room_refusal 20 (Some most) (20 + attribute_length n)) (most < 20 + attribute_length n ⊎ kinds < 1) r → r ≡ Err (TooSmall (20 + attribute_length n) most)
surely_refused most n kinds r short answer = subst (λ (o : Option StunWriteError). IsAddAnswer o (most < 20 + attribute_length n ⊎ kinds < 1) r) (too_small most (20 + attribute_length n) short) answer
