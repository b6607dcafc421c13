use Rattle.std.proofs.Common.{◌∙◌}
use Rattle.stun_types.proofs.WrittenTypesLemmas.{has_joined}
use Rattle.stun_types.proofs.message.unknown.joined_have.Goals as goal

pub returns : goal.returns
returns c = c.any_has.ensures ∙ has_joined c.args.atype.0 c.args.lists.now
