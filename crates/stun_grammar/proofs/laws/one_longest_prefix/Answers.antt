use Rattle.stun_grammar.proofs.PrefixesLemmas.{longest_exists, longest_unique}
use Rattle.stun_grammar.proofs.laws.one_longest_prefix.Goals as goal

pub returns-clause-there : goal.returns-clause-there
returns-clause-there c = λ passes xs none. longest_exists passes xs none

pub returns-clause-only : goal.returns-clause-only
returns-clause-only c = λ passes xs prefix none is. longest_unique passes xs prefix none is
