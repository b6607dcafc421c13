use Rattle.std.proofs.Common.{refl}
use Rattle.std.proofs.lemmas.Result.{err_from_is_err_and}
use Rattle.stun_grammar.proofs.HeadersLemmas.{header_there, frame_there}
use Rattle.stun_types.specs.Resuming.{whole_fault}
use Rattle.stun_types.proofs.ListedLemmas.{listed_whole}
use Rattle.stun_types.proofs.writing.listed.Listed.check.Goals as goal

pub returns-in_err-check_frame : goal.returns-in_err-check_frame
unfolding whole_fault
returns-in_err-check_frame c =
    let p = err_from_is_err_and c.from_residual.result c.from_residual.ensures.1 in
    rw (p.1, p.2) (rw c.in_err-check_frame.ensures refl)

pub check_attributes-requires : goal.check_attributes-requires
check_attributes-requires c = (header_there c.args.message.now (frame_there c.args.message.now c.in_ok-check_frame.ensures)).0

pub returns-in_err-ends : goal.returns-in_err-ends
unfolding whole_fault
returns-in_err-ends c =
    let p = err_from_is_err_and c.from_residual-in_err-ends.result c.from_residual-in_err-ends.ensures.1 in
    rw (p.1, p.2) (rw (c.in_ok-check_frame.ensures, c.in_err-ends.ensures) refl)

pub overflow_sub-result : goal.overflow_sub-result
overflow_sub-result c = (header_there c.args.message.now (frame_there c.args.message.now c.in_ok-check_frame.ensures)).0

pub returns : goal.returns
unfolding whole_fault
returns c = (
  rw (c.in_ok-check_frame.ensures, c.in_ok-ends.ensures.0) refl,
  listed_whole c.args.message.now _ c.in_ok-ends.ends refl c.in_ok-ends.ensures.1,
)
