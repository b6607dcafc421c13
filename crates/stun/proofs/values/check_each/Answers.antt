use Rattle.std.proofs.Common.{length, ◌*◌, ◌/◌}
use Rattle.std.proofs.lemmas.List.{take_rest}
use Rattle.std.proofs.lemmas.Result.{err_from_is_err_and}
use Rattle.stun.proofs.ValuesLemmas.{each_next, each_fault, each_done}
use Rattle.stun.proofs.values.check_each.Goals as goal

pub returns-in_err-check_parameters : goal.returns-in_err-check_parameters
returns-in_err-check_parameters c =
    let p = err_from_is_err_and c.from_residual.result c.from_residual.ensures.1 in
    rw (p.1, p.2) (each_fault (length c.args.value.now / 4) c.loop-i.i c.args.value.now _ c.loop-i-test.true (rw (take_rest c.args.value.now (4 * c.loop-i.i)) at c.in_err-check_parameters.ensures) c.loop-i.invariant)

pub loop-i-preserved : goal.loop-i-preserved
loop-i-preserved c = each_next (length c.args.value.now / 4) c.loop-i.i c.args.value.now c.loop-i-test.true (rw (take_rest c.args.value.now (4 * c.loop-i.i)) at c.in_ok-check_parameters.ensures) c.loop-i.invariant

pub returns : goal.returns
returns c = each_done (length c.args.value.now / 4) c.loop-i.i c.args.value.now c.loop-i-test.false c.loop-i.invariant
