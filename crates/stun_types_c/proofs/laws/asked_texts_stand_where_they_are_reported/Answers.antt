use Rattle.stun_grammar.proofs.NumbersLemmas.{IsBytes-from}
use Rattle.stun_types_c.proofs.CChallengeLemmas.{asked_there}
use Rattle.stun_types_c.proofs.laws.asked_texts_stand_where_they_are_reported.Goals as goal

pub returns : goal.returns
returns c = λ supported tried had_algorithms asked h.
    asked_there supported tried had_algorithms c.args.response.now asked (IsBytes-from c.args.response.now (λ i. (c.type_inv.response i).fits)) h
