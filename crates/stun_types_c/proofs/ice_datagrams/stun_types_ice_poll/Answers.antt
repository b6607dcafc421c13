use Rattle.std.proofs.Common.{rules}
use Rattle.stun_types_c.proofs.IceLemmas.{polled}
use Rattle.stun_types_c.proofs.ice_datagrams.stun_types_ice_poll.Goals as goal

pub returns : goal.returns
returns c = polled c.args.now _ c.args.id.now c.poll_on-result.result _ _ _ _ _ _ _ _ _ _ (search rules) (search rules) (search rules) c.poll_on-result.ensures
