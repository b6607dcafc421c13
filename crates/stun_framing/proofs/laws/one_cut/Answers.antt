use Rattle.stun_framing.proofs.CutsLemmas.{one}
use Rattle.stun_framing.proofs.laws.one_cut.Goals as goal

pub returns : goal.returns
returns c = one
