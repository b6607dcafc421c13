use Rattle.std.proofs.Common.{◌∙◌, ap, arith, get_or, set, bit_xor}
use Rattle.stun_values.proofs.XorLemmas.{xor_step}
use Rattle.stun_values.proofs.xored.xor_with.Goals as goal

pub loop-i-preserved : goal.loop-i-preserved
loop-i-preserved c =
    let i = c.loop-i.i in
    ap (λ zs. set zs i (bit_xor (get_or zs i 0) (get_or c.args.mask.now i 0))) c.loop-i.invariant
    ∙ xor_step c.args.bytes.now c.args.mask.now i (omega arith) (omega arith)
