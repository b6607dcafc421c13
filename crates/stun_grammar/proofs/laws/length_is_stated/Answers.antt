use Rattle.std.proofs.Common.{arith}
use Rattle.stun_grammar.proofs.HeadersLemmas.{framed_length, framed_whole, field_fits}
use Rattle.stun_grammar.proofs.ParsingLemmas.{parsed_frame}
use Rattle.stun_grammar.proofs.laws.length_is_stated.Goals as goal

pub returns-clause-parsed : goal.returns-clause-parsed
returns-clause-parsed c = λ d e. framed_length d (parsed_frame d e)

pub returns-clause-greatest : goal.returns-clause-greatest
returns-clause-greatest c = λ d bytes e. omega (arith, framed_length d (parsed_frame d e), field_fits d bytes)

pub returns-clause-whole : goal.returns-clause-whole
returns-clause-whole c = framed_whole
