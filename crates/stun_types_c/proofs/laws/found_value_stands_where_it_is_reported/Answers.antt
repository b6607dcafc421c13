use Rattle.stun_grammar.proofs.NumbersLemmas.{IsBytes-from}
use Rattle.stun_types_c.proofs.StandsLemmas.{found_there}
use Rattle.stun_types_c.proofs.laws.found_value_stands_where_it_is_reported.Goals as goal

pub returns : goal.returns
returns c = λ type.
    found_there c.args.bytes.now type (IsBytes-from c.args.bytes.now (λ i. (c.type_inv.bytes i).fits))
