use Rattle.stun_grammar.proofs.NumbersLemmas.{IsBytes-from}
use Rattle.stun_types.proofs.StandsLemmas.{found_there}
use Rattle.stun_types.proofs.reading.laws.found_is_there.Goals as goal

pub returns : goal.returns
returns c = λ type n. found_there c.args.bytes.now type n (IsBytes-from c.args.bytes.now (λ i. (c.type_inv.bytes i).fits))
