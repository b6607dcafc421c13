use Rattle.std.proofs.Common.{sym, ◌∙◌}
use Rattle.stun_grammar.proofs.HeadersLemmas.{not_begun, begun}
use Rattle.stun_base.proofs.header.short_header.Goals as goal

pub returns-then-not-may_begin : goal.returns-then-not-may_begin
returns-then-not-may_begin c = not_begun c.args.bytes.now c.requires (sym c.may_begin.ensures ∙ c.if-not-may_begin.true)

pub returns : goal.returns
returns c = begun c.args.bytes.now c.requires (sym c.may_begin.ensures ∙ c.if-not-may_begin.false)
