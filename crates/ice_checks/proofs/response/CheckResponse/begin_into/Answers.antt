use Rattle.std.proofs.Common.{Err, refl, arith}
use Rattle.ice_checks.proofs.WritingLemmas.{begun, not_begun}
use Rattle.ice_checks.proofs.response.CheckResponse.begin_into.Goals as goal

pub returns-in_err-builder_into : goal.returns-in_err-builder_into
returns-in_err-builder_into g c =
    let e = c.in_err-builder_into.field-0.0 in
    not_begun c.from_residual.result (Err e) e _ _ _ _ _ refl c.in_err-builder_into.ensures.err (λ ready. c.in_err-builder_into.ensures.succeeds ready (omega arith)) c.from_residual.ensures

pub returns : goal.returns
returns g c = begun c.add_response.result _ _ _ _ _ _ (rw (c.from_class_method-mtype.ensures, c.class.ensures) at c.in_ok-builder_into.ensures.ok) c.add_response.ensures
