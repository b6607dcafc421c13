use Rattle.ice_attrs.proofs.SplittingLemmas.{one_split}
use Rattle.ice_attrs.proofs.laws.one_split.Goals as goal

pub returns : goal.returns
returns c = one_split
