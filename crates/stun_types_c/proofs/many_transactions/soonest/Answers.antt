use Rattle.std.proofs.Common.{◌≡◌, ◌-◌, ◌<◌, ℕ, suc, length, drop, subst, arith}
use Rattle.stun_types_c.specs.ManyTransactions.{SoonestOf}
use Rattle.stun_types_c.proofs.ManyTransactionsLemmas.{one_more}
use Rattle.stun_types_c.proofs.many_transactions.soonest.Goals as goal

pub walk-preserved : goal.walk-preserved
walk-preserved c =
    let here : c.walk.left - 1 < length c.args.kept.now = omega (arith, c.walk.invariant.0, c.walk-test.true) in
    let step : c.walk.left ≡ suc (c.walk.left - 1) = omega (arith, c.walk-test.true) in
    let later : SoonestOf (drop (suc (c.walk.left - 1)) c.args.kept.now) c.walk.reported =
    subst (λ (k : ℕ). SoonestOf (drop k c.args.kept.now) c.walk.reported) step c.walk.invariant.1 in
    (omega (arith, c.walk.invariant.0), rw c.sooner-reported.ensures (one_more c.args.kept.now (c.walk.left - 1) _ c.wake.result c.walk.reported here c.wake.ensures later))
