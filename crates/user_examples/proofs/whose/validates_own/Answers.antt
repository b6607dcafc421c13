use Rattle.std.proofs.Common.{◌∙◌}
use Rattle.user_examples.proofs.WhoseLemmas.{has_origin}
use Rattle.user_examples.proofs.whose.validates_own.Goals as goal

pub returns : goal.returns
returns g c =
    let validated = c.validate_integrity_with_key in
    let is = c.in_ok-message.ensures.1 ∙ c.deref.ensures.value ∙ c.in-Ok.ensures.encoding in
    record { origin = has_origin validated.result _ _ _ _ is c.in-Ok.ensures.encodable validated.ensures.verdict validated.ensures.accepted }
