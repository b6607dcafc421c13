use Rattle.std.proofs.Common.{sym, ◌∙◌}
use Rattle.stun_grammar.proofs.HeadersLemmas.{not_header, header}
use Rattle.stun_base.proofs.header.check_header.Goals as goal

pub returns-then-not-begins_with_header : goal.returns-then-not-begins_with_header
returns-then-not-begins_with_header c = not_header c.args.bytes.now c.if-bytes-lt-LENGTH.false (sym c.begins_with_header.ensures ∙ c.if-not-begins_with_header.true)

pub returns : goal.returns
returns c = header c.args.bytes.now c.if-bytes-lt-LENGTH.false (sym c.begins_with_header.ensures ∙ c.if-not-begins_with_header.false)
