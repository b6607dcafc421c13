use Rattle.std.proofs.Common.{◌∙◌}
use Rattle.stun_types.proofs.WrittenTypesLemmas.{has_number}
use Rattle.stun_types.proofs.writing.among.is_among.Goals as goal

pub returns : goal.returns
returns c = c.any_is.ensures ∙ has_number c.args.atype.0 c.args.written.now
