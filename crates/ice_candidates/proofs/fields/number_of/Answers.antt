use Rattle.std.proofs.Common.{sym, ◌∙◌, arith}
use Rattle.ice_candidates.proofs.FieldsLemmas.{parse_none}
use Rattle.ice_candidates.proofs.fields.number_of.Goals as goal

pub returns-in_err-number : goal.returns-in_err-number
returns-in_err-number c =
    rw c.from_residual.ensures (parse_none c.args.least c.args.most c.args.word.now c.parse.result c.parse.ensures.value.0 (sym c.ok.ensures.value ∙ c.in_err-number.was) (sym c.is_empty.ensures ∙ c.if-is_empty.false) (sym c.are_digits.ensures ∙ c.if-not-are_digits.false) (omega arith))
