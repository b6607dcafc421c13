use Rattle.std.proofs.Common.{refl, ◌∙◌}
use Rattle.std.proofs.lemmas.Result.{err_from_is_err_and}
use Rattle.stun_types.proofs.ResumingLemmas.{too_few, enough_there}
use Rattle.stun_types.proofs.writing.resume_point.ResumePoint.check.Goals as goal

pub returns-then-slice-written : goal.returns-then-slice-written
returns-then-slice-written c = too_few c.args.slice.now c.args.written c.if-slice-written.true

pub returns-in_err-listed : goal.returns-in_err-listed
returns-in_err-listed c =
    let p = err_from_is_err_and c.from_residual.result c.from_residual.ensures.1 in
    rw (p.1, p.2) (enough_there c.args.slice.now c.args.written c.if-slice-written.false ∙ c.in_err-listed.ensures)

pub returns : goal.returns
returns c =
    let whole = c.in_ok-listed.ensures in
    (refl, record { fault = enough_there c.args.slice.now c.args.written c.if-slice-written.false ∙ whole.0; types = whole.1 })
