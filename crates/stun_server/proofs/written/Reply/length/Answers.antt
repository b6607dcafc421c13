use Rattle.std.proofs.Common.{◌+◌, Bool, ap, sym}
use Rattle.std.specs.Prelude.{if◌then◌else◌}
use Rattle.stun_types.specs.Message.{message_bytes}
use Rattle.stun_server.proofs.InSliceLemmas.{whole_is}
use Rattle.stun_server.proofs.written.Reply.length.Goals as goal

pub returns-then-self : goal.returns-then-self
returns-then-self c =
    let reply = c.args.self.now in
    let len = c.unfinished_length-len in
    whole_is reply.unknown.supported.now reply.source (message_bytes reply.request) len.result (len.result + 8) reply.is_finished reply.finished len.ensures.length len.ensures.bounds.0
    (ap (λ (b : Bool). len.result + (if b then 8 else 0)) (sym c.if-self.true))
