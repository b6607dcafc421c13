use Rattle.stun_types.proofs.GivenHmacsLemmas.{check_of}
use Rattle.stun_types.proofs.message.validate.check.IntegrityCheck.of.Goals as goal

pub returns : goal.returns
returns c = λ m checked. check_of m c.args.bytes.now _ checked c.at-text.ensures.algorithm c.at-text.ensures.covers
