use Rattle.std.proofs.Common.{◌≡◌, ℕ, List, length, eqb, bytes_eq, refl, sym, ap, ◌∙◌, arith}
use Rattle.std.proofs.lemmas.Bool.{eq-eqb, ne_eqb}
use Rattle.std.proofs.lemmas.Result.{err_from_is_err_and}
use Rattle.byteorder.specs.Endian.{big_number}
use Rattle.stun_grammar.specs.Numbers.{number, IsBytes}
use Rattle.stun_grammar.specs.Fingerprints.{fingerprint_fault, fingerprint_value}
use Rattle.stun_grammar.proofs.NumbersLemmas.{IsBytes-from}
use Rattle.stun_grammar.proofs.FourBytesLemmas.{number-four, same_four}
use Rattle.stun_grammar.proofs.AddingLemmas.{fingerprint_length}
use Rattle.stun_types.proofs.reading.fingerprint.check_fingerprint.Goals as goal

fingerprint_bytes : (d : List ℕ) (offset : ℕ) → IsBytes (fingerprint_value d offset)
unfolding fingerprint_value
fingerprint_bytes d offset = (omega arith, (omega arith, (omega arith, (omega arith, tt))))

word : (b : List ℕ) → length b ≡ 4 → big_number 4 b ≡ number b
word b e = omega (arith, number-four b e)

-- the numbers of a value and of the right value are compared
compared : (d value : List ℕ) (offset found right : ℕ) → length value ≡ 4 → IsBytes value → found ≡ big_number 4 value → right ≡ big_number 4 (fingerprint_value d offset)
    → eqb found right ≡ bytes_eq value (fingerprint_value d offset)
compared d value offset found right four bytes found-is right-is =
    let made = fingerprint_length d offset in
    rw (found-is, right-is, word value four, word (fingerprint_value d offset) made) (same_four value (fingerprint_value d offset) four made bytes (fingerprint_bytes d offset))

pub returns-in_err-check_length : goal.returns-in_err-check_length
unfolding fingerprint_fault
returns-in_err-check_length c =
    let p = err_from_is_err_and c.from_residual.result c.from_residual.ensures.1 in
    rw (p.1, p.2, c.in_err-check_length.ensures) refl

pub returns-then-found-right : goal.returns-then-found-right
unfolding fingerprint_fault
returns-then-found-right c =
    let both = compared c.args.bytes.now c.args.value.now c.args.offset _ _ c.in_ok-check_length.ensures.1 (IsBytes-from c.args.value.now (λ i. (c.type_inv.value i).fits)) c.read_u32-found.ensures (c.read_u32-right.ensures ∙ ap (big_number 4) c.fingerprint_at.ensures) in
    rw (c.in_ok-check_length.ensures.0, sym both ∙ ne_eqb _ _ c.if-found-right.true) refl

pub returns : goal.returns
unfolding fingerprint_fault
returns c =
    let both = compared c.args.bytes.now c.args.value.now c.args.offset _ _ c.in_ok-check_length.ensures.1 (IsBytes-from c.args.value.now (λ i. (c.type_inv.value i).fits)) c.read_u32-found.ensures (c.read_u32-right.ensures ∙ ap (big_number 4) c.fingerprint_at.ensures) in
    rw (c.in_ok-check_length.ensures.0, sym both ∙ eq-eqb _ _ c.if-found-right.false) refl
