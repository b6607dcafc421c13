use Rattle.std.proofs.Common.{◌≡◌, ◌^◌, ℕ, length, take, get_or, refl, ap, ◌∙◌, arith}
use Rattle.std.specs.Prelude.{unwrap_or}
use Rattle.std.proofs.Math.Seq.{take-length}
use Rattle.stun_authentication.specs.Base64.{six_bits, of_base64}
use Rattle.stun_authentication.proofs.Base64Lemmas.{read_more, bits_small, bits_fit, bits_more}
use Rattle.stun_authentication.proofs.base64.read_bits.Goals as goal

pub overflow_mul-bits : goal.overflow_mul-bits
overflow_mul-bits c = omega (arith, bits_fit c.loop-character.character-index c.loop-character.bits 0 (omega (arith, c.requires, c.loop-character-test.true)) c.loop-character.invariant.bound (omega arith))

pub overflow_add-bits : goal.overflow_add-bits
overflow_add-bits c =
    let read = get_or c.args.characters.now c.loop-character.character-index 0 in
    let v = ap (λ o. unwrap_or o 0) c.six_bits.ensures in
    omega (arith, c.unwrap_or.ensures, v, bits_fit c.loop-character.character-index c.loop-character.bits (unwrap_or (six_bits read) 0) (omega (arith, c.requires, c.loop-character-test.true)) c.loop-character.invariant.bound (bits_small read))

pub loop-character-init : goal.loop-character-init
loop-character-init c = record { value = refl; bound = omega arith }

pub loop-character-preserved : goal.loop-character-preserved
loop-character-preserved c =
    let characters = c.args.characters.now in
    let i = c.loop-character.character-index in
    let bits = c.loop-character.bits in
    let read = unwrap_or (six_bits (get_or characters i 0)) 0 in
    let is : c.unwrap_or.result ≡ read = c.unwrap_or.ensures ∙ ap (λ o. unwrap_or o 0) c.six_bits.ensures in
    record {
      value = omega (arith, is, c.loop-character.invariant.value, read_more characters i c.loop-character-test.true);
      bound = omega (arith, is, bits_more i bits read c.loop-character.invariant.bound (bits_small (get_or characters i 0)));
    }

pub returns : goal.returns
returns c =
    let characters = c.args.characters.now in
    let all : c.loop-character.character-index ≡ length characters = omega (arith, c.loop-character-test.false, c.loop-character.auto.character-index-end) in
    record {
      value = c.loop-character.invariant.value ∙ ap (λ (k : ℕ). of_base64 (take k characters)) all ∙ ap of_base64 (take-length characters);
      bound = omega (arith, c.loop-character.invariant.bound, ap (λ (k : ℕ). 64 ^ k) all);
    }
