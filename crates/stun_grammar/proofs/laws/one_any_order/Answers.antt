use Rattle.stun_grammar.proofs.ShownOrderCutLemmas.{any_ordered-is, in_any_order-cut}
use Rattle.stun_grammar.proofs.laws.one_any_order.Goals as goal

pub returns : goal.returns
returns c = λ types. (any_ordered-is types, in_any_order-cut types)
