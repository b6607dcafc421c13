use Rattle.std.proofs.Common.{Option, ap, ◌∙◌}
use Rattle.std.specs.Option.{option_map}
use Rattle.stun_grammar.specs.declared.attribute_type.AttributeType.{AttributeType}
use Rattle.stun_types.proofs.WrittenTypesLemmas.{first_number}
use Rattle.stun_types.proofs.writing.among.first_among.Goals as goal

pub returns : goal.returns
returns c = ap (λ (found : Option AttributeType). option_map (λ (type : AttributeType). type.0) found) c.find_any.ensures ∙ first_number c.args.asked.now c.args.written.now
