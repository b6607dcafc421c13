use Rattle.std.proofs.Common.{false}
use Rattle.stun_types.proofs.ListedLemmas.{listed_none}
use Rattle.stun_types.proofs.writing.listed.Listed.none.Goals as goal

pub returns : goal.returns
returns c = listed_none false
