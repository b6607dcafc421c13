use Rattle.stun_grammar.proofs.ShownOrderCutLemmas.{ordered-is, in_order-from}
use Rattle.stun_grammar.proofs.laws.one_order.Goals as goal

pub returns : goal.returns
returns c = λ types. (ordered-is types, in_order-from types)
