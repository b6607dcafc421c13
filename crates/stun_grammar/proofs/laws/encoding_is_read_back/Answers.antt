use Rattle.std.proofs.Common.{length, drop}
use Rattle.stun_grammar.specs.Attributes.{encoding}
use Rattle.stun_grammar.proofs.AttributesLemmas.{first_attribute-encoding, first_attribute_takes}
use Rattle.stun_grammar.proofs.laws.encoding_is_read_back.Goals as goal

pub returns-clause-read : goal.returns-clause-read
returns-clause-read c = first_attribute-encoding

pub returns-clause-spelled : goal.returns-clause-spelled
returns-clause-spelled c = λ a b bytes e. let taken = first_attribute_takes b a bytes e in (taken.0, (drop (length (encoding a)) b, taken.1))
