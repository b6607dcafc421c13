use Rattle.stun_framing.proofs.StreamsLemmas.{begun_is}
use Rattle.stun_framing.proofs.message_stream.MessageStream.carrying.Goals as goal

pub invariant_of-result : goal.invariant_of-result
invariant_of-result c = begun_is c.args.carries c.args.buffer.now c.requires
