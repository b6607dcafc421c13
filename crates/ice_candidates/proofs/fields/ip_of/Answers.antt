use Rattle.std.proofs.Common.{◌∙◌}
use Rattle.ice_candidates.proofs.FieldsLemmas.{ip_parsed}
use Rattle.ice_candidates.proofs.fields.ip_of.Goals as goal

pub returns : goal.returns
returns c = c.ok.ensures.value ∙ ip_parsed c.args.text.now c.parse.result c.parse.ensures.value
