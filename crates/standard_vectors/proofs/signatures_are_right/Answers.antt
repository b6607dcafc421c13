use Rattle.std.proofs.Common.{◌≡◌, zero, suc, [], ◌∷◌, length, slice_range, Contains, refl, sym, ap, ◌∙◌, lit<, arith}
use Rattle.stun_grammar.specs.Chains.{chain}
use Rattle.stun_grammar.specs.Authentic.{Content}
use Rattle.stun_grammar.specs.Sending.{Sent}
use Rattle.standard_vectors.specs.Parameters.{message_signed_twice}
use Rattle.standard_vectors.specs.Right.{signed_text, text_of_sha256}
use Rattle.standard_vectors.specs.WrittenMessages.{signed_twice}
use Rattle.standard_vectors.proofs.Computing.{validating}
use Rattle.standard_vectors.proofs.signatures_are_right.Goals as goal

the_only : {A : Type 0} (x y : A) → Contains (x ∷ []) y → x ≡ y
the_only x y (zero, here, is) = is
the_only x y (suc k, here, is) = absurd (omega (arith, here))

pub returns-clause-sha1 : goal.returns-clause-sha1
unfolding validating
returns-clause-sha1 c = refl

pub returns-clause-sha256 : goal.returns-clause-sha256
unfolding validating
returns-clause-sha256 c = refl

pub returns-clause-other_key : goal.returns-clause-other_key
unfolding validating
returns-clause-other_key c = refl

pub returns-clause-given : goal.returns-clause-given
unfolding validating
returns-clause-given c = refl

pub returns-clause-other_given : goal.returns-clause-other_given
unfolding validating
returns-clause-other_given c = refl

pub returns-clause-origin : goal.returns-clause-origin
unfolding validating
returns-clause-origin c = record {
  message = message_signed_twice;
  was_sent = (0, lit< tt, refl);
  signature = record { covered = text_of_sha256; through = chain (slice_range signed_twice 20 92) };
  was_signed = (0, lit< tt, refl);
  covers = refl;
  tells = refl;
}

pub returns-clause-other_content : goal.returns-clause-other_content
unfolding validating
returns-clause-other_content c = λ came.
    let kind : 0x0001 ≡ came.message.type = ap (λ (m : Sent). m.type) (the_only message_signed_twice came.message came.was_sent) in
    let other : 0x0101 ≡ came.message.type = ap (λ (it : Content). it.type) came.tells in
    let same : 0x0001 ≡ 0x0101 = kind ∙ sym other in
    absurd (cc same)

pub returns-clause-was_signed : goal.returns-clause-was_signed
unfolding validating
returns-clause-was_signed c = λ none. none.0.0 refl

pub returns-clause-unsigned : goal.returns-clause-unsigned
unfolding validating
returns-clause-unsigned c =
    let differ : signed_text signed_twice 32 ≡ text_of_sha256 → ⊥ = λ same. (let lengths : 32 ≡ 56 = ap length same in absurd (cc lengths)) in
    ((differ, tt), tt)
