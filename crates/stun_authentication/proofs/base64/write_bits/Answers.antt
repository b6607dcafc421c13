use Rattle.std.proofs.Common.{◌≡◌, ℕ, List, ◌-◌, ◌++◌, length, drop, sym, ap, ◌∙◌, arith}
use Rattle.std.proofs.Math.Seq.{drop-length}
use Rattle.std.proofs.lemmas.List.{append-nil, length-set}
use Rattle.stun_authentication.specs.Base64.{in_base64}
use Rattle.stun_authentication.proofs.Base64Lemmas.{written_before, in_base64_none}
use Rattle.stun_authentication.proofs.base64.write_bits.Goals as goal

pub loop-i-init : goal.loop-i-init
loop-i-init c =
    let dest = c.args.dest.now in
    let text = in_base64 (length dest) c.args.bits in
    record { within = omega arith; text = ap (λ (tail : List ℕ). text ++ tail) (drop-length dest) ∙ append-nil text }

pub loop-i-preserved : goal.loop-i-preserved
loop-i-preserved c =
    let dest = c.loop-i.dest in
    let same = length-set dest (c.loop-i.i - 1) c.last_character.result in
    record {
      within = omega (arith, same, c.loop-i.invariant.within);
      text = written_before dest c.loop-i.i (length dest) c.args.bits c.loop-i.left c.last_character.result c.loop-i-test.true c.loop-i.invariant.within c.last_character.ensures c.loop-i.invariant.text
          ∙ ap (λ (k : ℕ). in_base64 k c.args.bits) (sym same);
    }

pub returns : goal.returns
returns c =
    let none : c.loop-i.i ≡ 0 = omega (arith, c.loop-i-test.false) in
    let dest = c.loop-i.dest in
    sym (in_base64_none c.loop-i.left dest) ∙ ap (λ (k : ℕ). in_base64 k c.loop-i.left ++ drop k dest) (sym none) ∙ c.loop-i.invariant.text ∙ ap (λ (k : ℕ). in_base64 k c.args.bits) c.loop-i.auto.dest
