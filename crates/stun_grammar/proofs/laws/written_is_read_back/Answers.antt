use Rattle.std.proofs.Common.{arith}
use Rattle.stun_grammar.proofs.WritingLemmas.{parse-message, shown-message, type-message, field-message, id-message, length-message}
use Rattle.stun_grammar.proofs.laws.written_is_read_back.Goals as goal

pub returns-clause-parses : goal.returns-clause-parses
returns-clause-parses c = parse-message

pub returns-clause-shows : goal.returns-clause-shows
returns-clause-shows c = shown-message

pub returns-clause-kind : goal.returns-clause-kind
returns-clause-kind c = λ type id attributes w. type-message type id attributes w.type_fits

pub returns-clause-field : goal.returns-clause-field
returns-clause-field c = λ type id attributes w. field-message type id attributes (omega (arith, w.length_fits, length-message type id attributes))

pub returns-clause-id : goal.returns-clause-id
returns-clause-id c = λ type id attributes w. id-message type id attributes w.id_fits
