use Rattle.stun_types.specs.Message.{message_bytes}
use Rattle.stun_types.proofs.RepliesLemmas.{RepliesSoFar}
use Rattle.stun_types.proofs.message.reply.parts.write_reply.Given as goal

abbrev pub invariant-loop-i : goal.invariant-loop-i
invariant-loop-i g l = RepliesSoFar l.parts (g.B.MessageWrite.state l.fn.write) (g.B.MessageWrite.state l.write) (message_bytes l.fn.src) l.i
