use Rattle.stun_grammar.proofs.ChainsLemmas.{chain-append}
use Rattle.stun_grammar.proofs.laws.prefix_of_chain.Goals as goal

pub returns-clause-attributes : goal.returns-clause-attributes
returns-clause-attributes c = λ attributes more all. (chain-append attributes more all).chain_is

pub returns-clause-rest : goal.returns-clause-rest
returns-clause-rest c = λ attributes more all. (chain-append attributes more all).rest_is
