use Rattle.std.proofs.lemmas.Result.{err_from_is_err_and}
use Rattle.stun_grammar.proofs.HeadersLemmas.{header_there, first_low}
use Rattle.stun_base.proofs.header.MessageHeader.from_bytes.Goals as goal

pub returns-in_err-check_header : goal.returns-in_err-check_header
returns-in_err-check_header c =
    let p = err_from_is_err_and c.from_residual.result c.from_residual.ensures.1 in rw (p.1, p.2) c.in_err-check_header.ensures

pub read_header-requires-clause-long : goal.read_header-requires-clause-long
read_header-requires-clause-long c = (header_there c.args.bytes.now c.in_ok-check_header.ensures).0

pub read_header-requires-clause-low : goal.read_header-requires-clause-low
read_header-requires-clause-low c = first_low c.args.bytes.now c.in_ok-check_header.ensures

pub returns : goal.returns
returns c = (c.in_ok-check_header.ensures, c.read_header.ensures)
