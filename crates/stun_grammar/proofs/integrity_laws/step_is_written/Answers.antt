use Rattle.std.proofs.Common.{List, [], ◌∷◌, subst, append_assoc, ap, ◌∙◌}
use Rattle.stun_grammar.specs.Attributes.{Attribute}
use Rattle.stun_grammar.specs.Verdicts.{verdict}
use Rattle.stun_grammar.specs.Writing.{message_encoding, IsWritable}
use Rattle.stun_grammar.specs.Steps.{sign, appended_by}
use Rattle.stun_grammar.proofs.StepsLemmas.{none_writable, step_writable, length-with_step}
use Rattle.stun_grammar.proofs.StepsSignedLemmas.{signed_validates}
use Rattle.stun_grammar.proofs.integrity_laws.step_is_written.Goals as goal

pub returns-clause-header : goal.returns-clause-header
returns-clause-header c = none_writable

pub returns-clause-step : goal.returns-clause-step
returns-clause-step c = λ type id before step lawful plain so may. step_writable type id before step so may lawful plain

pub returns-clause-size : goal.returns-clause-size
returns-clause-size c = length-with_step

pub returns-clause-signed : goal.returns-clause-signed
returns-clause-signed c = λ type id before behind a key wanted w asked none.
    let one = appended_by (sign a (key a)) (message_encoding type id before) in
    let joined = append_assoc before (one ∷ []) behind in
    ap (λ (xs : List Attribute). verdict wanted key (message_encoding type id xs)) joined
    ∙ signed_validates type id before behind a key wanted (subst (IsWritable type id) joined w) asked none
