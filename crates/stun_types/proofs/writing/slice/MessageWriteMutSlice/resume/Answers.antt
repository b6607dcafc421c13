use Rattle.std.proofs.lemmas.Result.{err_from_is_err_and}
use Rattle.stun_types.proofs.writing.slice.MessageWriteMutSlice.resume.Goals as goal

pub returns-in_err-point : goal.returns-in_err-point
returns-in_err-point c =
    let p = err_from_is_err_and c.from_residual.result c.from_residual.ensures.1 in
    record { answer = rw (p.1, p.2) c.in_err-point.ensures }

pub returns : goal.returns
returns c =
    let reported = c.in_ok-point.ensures in
    record { answer = (rw reported.0 at reported.1.fault, rw reported.0 at c.resume_at.ensures) }
