use Rattle.std.proofs.Common.{sym, subst, rules}
use Rattle.stun_types.specs.Message.{message_bytes}
use Rattle.stun_types.specs.Replies.{Replies}
use Rattle.stun_types.proofs.RepliesLemmas.{unknown_parts, no_unknown_parts}
use Rattle.stun_types.proofs.message.read.Message.unknown_attributes_into.Goals as goal

pub returns-then-is_empty-clause-replies : goal.returns-then-is_empty-clause-replies
returns-then-is_empty-clause-replies g c =
    subst (Replies c.write_reply.result (g.B.MessageWrite.state c.args.write.now) (g.B.MessageWrite.state c.write_reply.new.write) (message_bytes c.args.src.now))
    (sym (no_unknown_parts c.args.types.now (search rules))) c.write_reply.ensures.replies

pub returns-clause-replies : goal.returns-clause-replies
returns-clause-replies g c =
    subst (Replies c.write_reply-2.result (g.B.MessageWrite.state c.args.write.now) (g.B.MessageWrite.state c.write_reply-2.new.write) (message_bytes c.args.src.now))
    (sym (unknown_parts c.args.types.now (search rules))) c.write_reply-2.ensures.replies
