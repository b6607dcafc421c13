use Rattle.stun_attributes.proofs.CoveredLemmas.{pieces_of}
use Rattle.stun_attributes.proofs.integrity.covered.pieces_before.Goals as goal

pub returns : goal.returns
returns c = λ size e. pieces_of c.args.bytes.now c.args.beginning.now c.args.offset size e
