use Rattle.std.proofs.Common.{◌≡◌, ◌+◌, ◌-◌, ◌*◌, true, false, sym, arith}
use Rattle.stun_values.specs.declared.algorithm.PasswordAlgorithmValue.TheVariants.{MD5}
use Rattle.stun_authentication.proofs.EntriesLemmas.{at_index, at_end, other_length, differs, agrees}
use Rattle.stun_authentication.proofs.algorithms.is_encoding_of.Goals as goal
use Rattle.stun_authentication.proofs.algorithms.is_encoding_of.Goals.{then-value-ne0-via-then-value-ne0, then-value-ne0-via-else-value-ne0+then-value-algorithms}

pub returns-then-value-ne0 : goal.returns-then-value-ne0
returns-then-value-ne0 c = other_length c.args.value.now c.args.algorithms.now
    (λ same. elim c.then-value-ne0.branch [ then-value-ne0-via-then-value-ne0 w ↦ omega (arith, same) | then-value-ne0-via-else-value-ne0+then-value-algorithms w ↦ omega (arith, same) ])

pub returns-then-ne : goal.returns-then-ne
returns-then-ne c =
    let i = c.loop-i.i in
    let four : 4 * i + 4 - 4 * i ≡ 4 = omega arith in
    sym (at_index c.args.value.now c.args.algorithms.now i MD5 false c.loop-i-test.true c.loop-i.invariant
    (differs _ _ (rw (four, c.as_slice.ensures, c.write_algorithm.ensures) at c.ne.ensures) c.if-ne.true))

pub loop-i-preserved : goal.loop-i-preserved
loop-i-preserved c =
    let i = c.loop-i.i in
    let four : 4 * i + 4 - 4 * i ≡ 4 = omega arith in
    at_index c.args.value.now c.args.algorithms.now i MD5 true c.loop-i-test.true c.loop-i.invariant
    (agrees _ _ (rw (four, c.as_slice.ensures, c.write_algorithm.ensures) at c.ne.ensures) c.if-ne.false)

pub returns : goal.returns
returns c = at_end c.args.value.now c.args.algorithms.now c.loop-i.i (omega arith) (omega arith) c.loop-i.invariant
