use Rattle.stun_grammar.proofs.NumbersLemmas.{IsBytes-from}
use Rattle.user_examples.proofs.behind.are_bytes.Goals as goal

pub returns : goal.returns
returns c = IsBytes-from c.args.slice.now (λ i. (c.type_inv.slice i).fits)
