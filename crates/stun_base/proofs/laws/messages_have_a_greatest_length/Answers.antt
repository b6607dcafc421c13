use Rattle.std.proofs.Common.{◌≡◌, ◌%◌, List, [], ◌∷◌, length, refl, arith}
use Rattle.std.specs.List.{AllByRecursion}
use Rattle.std.proofs.lemmas.List.{length-append}
use Rattle.stun_grammar.specs.Attributes.{Attribute, IsAttribute, encoding, encodings}
use Rattle.stun_grammar.proofs.AttributesLemmas.{length-encoding-is}
use Rattle.stun_grammar.proofs.HeadersLemmas.{framed_length, field_fits}
use Rattle.stun_grammar.proofs.ParsingLemmas.{parsed_frame}
use Rattle.stun_grammar.proofs.WritingLemmas.{length-message}
use Rattle.stun_base.proofs.laws.messages_have_a_greatest_length.Goals as goal

-- attributes end at multiples of 4
in_fours : (attributes : List Attribute) → AllByRecursion IsAttribute attributes → length (encodings attributes) % 4 ≡ 0
in_fours [] each = refl
in_fours (a ∷ more) (is, each) = omega (arith, length-append (encoding a) (encodings more), length-encoding-is a is, in_fours more each)

pub returns-clause-written : goal.returns-clause-written
returns-clause-written c = λ type id attributes written.
    omega (arith, length-message type id attributes, in_fours attributes written.each, written.length_fits)

pub returns-clause-parsed : goal.returns-clause-parsed
returns-clause-parsed c = λ d bytes parses fours. omega (arith, framed_length d (parsed_frame d parses), field_fits d bytes, fours)
