use Rattle.std.proofs.lemmas.Result.{err_from_is_err_and}
use Rattle.stun_grammar.proofs.HeadersLemmas.{header_there, frame-header}
use Rattle.stun_types.proofs.reading.frame.check_frame.Goals as goal

pub returns-in_err-check_header : goal.returns-in_err-check_header
returns-in_err-check_header c =
    let p = err_from_is_err_and c.from_residual.result c.from_residual.ensures.1 in rw (p.1, p.2) (frame-header c.args.bytes.now c.in_err-check_header.field-0.0 c.in_err-check_header.ensures)

pub stated_length-requires : goal.stated_length-requires
stated_length-requires c = (header_there c.args.bytes.now c.in_ok-check_header.ensures).0
