use Rattle.std.proofs.Common.{◌∙◌}
use Rattle.stun_types.specs.Listing.{listed_types}
use Rattle.stun_types.proofs.ListedLemmas.{found_is_has}
use Rattle.stun_types.proofs.writing.listed.Listed.has.Goals as goal

pub returns : goal.returns
returns c = c.is_some.ensures ∙ found_is_has _ c.args.atype.0 (listed_types c.args.self c.args.message.now) c.first_of.ensures
