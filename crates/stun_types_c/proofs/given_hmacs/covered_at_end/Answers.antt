use Rattle.stun_types_c.proofs.GivenHmacsLemmas.{reported_at_end}
use Rattle.stun_types_c.proofs.given_hmacs.covered_at_end.Goals as goal

pub returns : goal.returns
returns c = reported_at_end c.args.message.now c.args.algorithm c.number_of.result c.hmac_length.result c.beginning.result c.requires c.number_of.ensures c.hmac_length.ensures c.beginning.ensures
