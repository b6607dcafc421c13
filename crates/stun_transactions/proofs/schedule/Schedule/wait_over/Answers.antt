use Rattle.std.proofs.Common.{◌<◌, ◌≤◌, ◌*◌, ◌^◌, arith}
use Rattle.stun_transactions.proofs.RowsLemmas.{wait_fits}
use Rattle.stun_transactions.proofs.schedule.Schedule.wait_over.Goals as goal

pub overflow_mul-result : goal.overflow_mul-result
overflow_mul-result c =
    let s = c.args.self.now in
    let some : 1 ≤ c.args.sent = omega arith in
    let more : c.args.sent < s.max_requests = omega arith in
    let fits : s.rto * c.pow.result < 2 ^ 64 = rw c.pow.ensures (wait_fits s.rto s.max_requests s.last_wait_factor c.args.sent some more s.fits) in
    omega arith
