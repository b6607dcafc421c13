use Rattle.std.proofs.Common.{◌<◌, ◌-◌, ◌*◌, ◌^◌, arith}
use Rattle.stun_transactions.proofs.RowsLemmas.{moment_fits}
use Rattle.stun_transactions.proofs.schedule.Schedule.moment.Goals as goal

pub overflow_mul-result : goal.overflow_mul-result
overflow_mul-result c =
    let s = c.args.self.now in
    let more : c.args.n < s.max_requests = omega arith in
    let fits : s.rto * (c.pow.result - 1) < 2 ^ 64 = rw c.pow.ensures (moment_fits s.rto s.max_requests s.last_wait_factor c.args.n more s.fits) in
    omega arith
