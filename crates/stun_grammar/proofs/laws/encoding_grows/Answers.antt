use Rattle.stun_grammar.proofs.WritingLemmas.{length-message, message-more}
use Rattle.stun_grammar.proofs.laws.encoding_grows.Goals as goal

pub returns-clause-size : goal.returns-clause-size
returns-clause-size c = length-message

pub returns-clause-text : goal.returns-clause-text
returns-clause-text c = message-more
