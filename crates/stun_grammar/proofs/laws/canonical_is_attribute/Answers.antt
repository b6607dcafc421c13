use Rattle.stun_grammar.proofs.WritingLemmas.{canonical_is, length-canonical}
use Rattle.stun_grammar.proofs.laws.canonical_is_attribute.Goals as goal

pub returns-clause-attribute : goal.returns-clause-attribute
returns-clause-attribute c = canonical_is

pub returns-clause-size : goal.returns-clause-size
returns-clause-size c = length-canonical
